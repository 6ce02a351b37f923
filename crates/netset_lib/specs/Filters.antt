-- The entries of a list that lie entirely inside the addresses of another list, or entirely outside.
use Rattle.std.specs.Prelude.{◌≡◌, ◌⊎◌, ℕ, List, [], ◌∷◌, ◌++◌}
use Rattle.ipnet_base.specs.Address.{Address}
use Rattle.ipnet_sets.specs.SetRanges.{IsInRange}
use Rattle.netset_lib.specs.declared.filter.Side.{Side}
use Rattle.netset_lib.specs.declared.filter.Side.TheVariants.{Inside, Outside}
use Rattle.ipnet_lists.specs.Lists.{ListEntry}

-- The addresses on this side: those in the set, or those not in it.
abbrev pub IsOnSide : Side → (Address → Type 0) → Address → Type 0
IsOnSide Inside InSet = InSet
IsOnSide Outside InSet = λ x. ¬ (InSet x)

-- Every address of the entry is in the set.
abbrev pub LiesIn : (Address → Type 0) → ListEntry → Type 0
LiesIn InSet e = (x : Address) → IsInRange e.range x → InSet x

-- The entries with this property, in order.
abbrev pub AreKept : (ListEntry → Type 0) → List ListEntry → List ListEntry → Type 0
AreKept Keep [] kept = kept ≡ []
AreKept Keep (e ∷ entries) kept =
    ((more : List ListEntry) × Keep e × (kept ≡ e ∷ more) × AreKept Keep entries more)
    ⊎ ((¬ (Keep e)) × AreKept Keep entries kept)

-- The entries as they are in the list, each followed by "\n" (10).
abbrev pub text_of_entries : List ListEntry → List ℕ
text_of_entries [] = []
text_of_entries (e ∷ entries) = e.text ++ 10 ∷ [] ++ text_of_entries entries
