-- The private steps of filtering.
-- Only private contracts use these.
use Rattle.std.specs.Prelude.{◌≡◌, ◌⊎◌, ℕ, List, [], ◌∷◌, ◌++◌}
use Rattle.ipnet_base.specs.Address.{Address, IsAddress}
use Rattle.ipnet_base.specs.Ranges.{AddressRange}
use Rattle.ipnet_sets.specs.SetRanges.{IsInRange}
use Rattle.netset_lib.specs.Filters.{LiesIn}
use Rattle.ipnet_lists.specs.Lists.{ListEntry}

-- All numbers of the range are addresses of its family.
abbrev pub HasAddresses : AddressRange → Type 0
HasAddresses range = (x : Address) → IsInRange range x → IsAddress x

-- An entry that lies in the set is a line of the text; another one is none.
abbrev pub IsFilterLine : (Address → Type 0) → ListEntry → List ℕ → Type 0
IsFilterLine InSet e line =
    (LiesIn InSet e × (line ≡ e.text ++ 10 ∷ [])) ⊎ ((¬ (LiesIn InSet e)) × (line ≡ []))
