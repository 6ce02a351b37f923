-- Entries that lie in a set, and entries that are kept.
use Rattle.std.proofs.Common.{◌≡◌, ℕ, ◌^◌, ◌↔◌, Bool, IsTrue, List, [], ◌∷◌, ◌++◌, refl, ap, ◌∙◌}
use Rattle.std.proofs.Common.{arith, inl, inr, append_assoc}
use Rattle.ipnet_base.specs.Address.{Address, IsAddress, width}
use Rattle.ipnet_base.specs.Ranges.{AddressRange}
use Rattle.ipnet_sets.specs.Members.{IsFromTo}
use Rattle.ipnet_sets.specs.SetRanges.{IsInRange}
use Rattle.netset_lib.specs.declared.filter.Side.{Side}
use Rattle.netset_lib.specs.declared.filter.Side.TheVariants.{Inside, Outside}
use Rattle.netset_lib.specs.EntryAnswers.{AreAnswers}
use Rattle.netset_lib.specs.Filtering.{HasAddresses, IsFilterLine}
use Rattle.netset_lib.specs.Filters.{IsOnSide, LiesIn, AreKept, text_of_entries}
use Rattle.ipnet_lists.specs.Lists.{ListEntry}

-- ---- entries that are kept

-- the lines of the entries that lie in the set are the text of those that are kept
pub kept_of_lines : (InSet : Address → Type 0) (entries : List ListEntry) (text : List ℕ)
    → AreAnswers (IsFilterLine InSet) entries text
    → (kept : List ListEntry) × AreKept (LiesIn InSet) entries kept × (text ≡ text_of_entries kept)
kept_of_lines InSet [] text h = ([], refl, h)
kept_of_lines InSet (e ∷ entries) text (line, rest, cut, inl (lies, is), h) =
    let (kept, are, spelled) = kept_of_lines InSet entries rest h in (
      e ∷ kept,
      inl (kept, lies, refl, are),
      cut ∙ ap (λ z. z ++ rest) is ∙ ap (λ z. (e.text ++ 10 ∷ []) ++ z) spelled ∙ simp append_assoc,
    )
kept_of_lines InSet (e ∷ entries) text (line, rest, cut, inr (apart, is), h) =
    let (kept, are, spelled) = kept_of_lines InSet entries rest h in
    (kept, inr (apart, are), cut ∙ ap (λ z. z ++ rest) is ∙ spelled)

-- ---- what a test of all addresses of one set says of another set with the same ones

pub covers_same : (A B InSet : Address → Type 0) (r : Bool) → ((x : Address) → A x ↔ B x)
    → (IsTrue r ↔ ((x : Address) → A x → InSet x)) → IsTrue r ↔ ((x : Address) → B x → InSet x)
covers_same A B InSet r same h =
    (λ t x b. h.0 t x ((same x).1 b), λ all. h.1 (λ x a. all x ((same x).0 a)))

-- what lies between two addresses is addresses, and so is what lies in a range with the same ones
pub range_fits : (first last : Address) (range : AddressRange) → IsAddress last
    → ((x : Address) → IsFromTo first last x ↔ IsInRange range x) → HasAddresses range
range_fits first last range fits same x h =
    let k = (same x).1 h in
    omega (arith, k.to_end, fits, ap (λ f. 2 ^ width f) k.family_of_end)

-- ---- an entry, and two sets with the same addresses

pub lies_same : (InSet Other : Address → Type 0) (e : ListEntry)
    → ((x : Address) → IsAddress x → InSet x ↔ Other x) → HasAddresses e.range → LiesIn InSet e ↔ LiesIn Other e
lies_same InSet Other e same fits = (
  λ lies x inside. (same x (fits x inside)).0 (lies x inside),
  λ lies x inside. (same x (fits x inside)).1 (lies x inside),
)

pub filter_line_same : (InSet Other : Address → Type 0) (e : ListEntry) (line : List ℕ)
    → ((x : Address) → IsAddress x → InSet x ↔ Other x) → HasAddresses e.range → IsFilterLine InSet e line
    → IsFilterLine Other e line
filter_line_same InSet Other e line same fits (inl (lies, is)) =
    inl ((lies_same InSet Other e same fits).0 lies, is)
filter_line_same InSet Other e line same fits (inr (apart, is)) =
    inr (λ o. apart ((lies_same InSet Other e same fits).1 o), is)

-- ---- the two lists

-- this side of a set, and of another with the same addresses
pub side_same : (side : Side) (InSet Other : Address → Type 0) (x : Address) → (InSet x ↔ Other x)
    → IsOnSide side InSet x ↔ IsOnSide side Other x
side_same Inside InSet Other x same = same
side_same Outside InSet Other x same = (λ no o. no (same.1 o), λ no i. no (same.0 i))
