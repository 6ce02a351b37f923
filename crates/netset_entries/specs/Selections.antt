-- The entries of lists that are selected: those that are chosen, without repeats or with them, and in which order.
use Rattle.std.specs.Prelude.{◌≡◌, ◌⊎◌, ℕ, Bool, true, false, List, [], ◌∷◌, ◌++◌, Any}
use Rattle.std.specs.List.Sorted.{IsPermutation, IsSortedByKey, IsStableByKey}
use Rattle.std.specs.Ordering.{nat_cmp, ordering_then}
use Rattle.std.specs.declared.cmp.Ordering.{Ordering}
use Rattle.ipnet_base.specs.Address.{family_index}
use Rattle.ipnet_base.specs.Ranges.{AddressRange}
use Rattle.ipnet_lists.specs.Lists.{ListEntry}
use Rattle.ipnet_lists.specs.RefusedLines.{RefusedLines}
use Rattle.netset_lib.specs.Answers.{AreListsRead, HasRefused}
use Rattle.netset_lib.specs.EntryAnswers.{IsFoundIn}
use Rattle.netset_lib.specs.Filters.{AreKept, text_of_entries}
use Rattle.netset_lib.specs.declared.failure.Failure.{Failure}
use Rattle.netset_lib.specs.declared.failure.Failure.TheVariants as Failures
use Rattle.netset_lib.specs.declared.runs.Fault.{Fault}
use Rattle.netset_lib.specs.declared.runs.Fault.TheVariants.{Lists, Other}
use Rattle.netset_entries.specs.declared.selected.SelectRequest.{SelectRequest}
use Rattle.netset_entries.specs.Choices.{IsChosen}

-- One of the entries has exactly the addresses of the range.
abbrev pub HaveRange : List ListEntry → AddressRange → Type 0
HaveRange entries range = Any (λ e. e.range ≡ range) entries

-- These entries come after the entries `before`. The firsts are the entries with addresses that no earlier entry has
-- exactly, in order.
-- Example: of 10.0.0.1, ::1, 10.0.0.1/32 and 10.0.0.0/31, all except the third.
abbrev pub AreFirsts : (before : List ListEntry) → List ListEntry → (firsts : List ListEntry) → Type 0
AreFirsts before [] firsts = firsts ≡ []
AreFirsts before (e ∷ entries) firsts =
    ((more : List ListEntry) × (¬ (HaveRange before e.range)) × (firsts ≡ e ∷ more)
    × AreFirsts (before ++ e ∷ []) entries more)
    ⊎ (HaveRange before e.range × AreFirsts before entries firsts)

-- Without repeats, these are the firsts of the entries; with repeats they are all.
abbrev pub AreWithout : (unique : Bool) → (entries kept : List ListEntry) → Type 0
AreWithout true entries kept = AreFirsts [] entries kept
AreWithout false entries kept = kept ≡ entries

-- The order of ranges: IPv4 before IPv6, then by the first address, then the larger range before the smaller.
-- Example: 10.0.0.0/8, 10.0.0.0/24, 10.0.0.0, 10.0.0.1, ::/0.
abbrev pub range_cmp : AddressRange → AddressRange → Ordering
range_cmp a b = ordering_then (nat_cmp (family_index a.family) (family_index b.family))
    (ordering_then (nat_cmp a.start b.start) (nat_cmp b.end a.end))

-- The entries are in this order. Entries with one range are in the order of the lists.
pub record AreSorted (entries printed : List ListEntry) : Type 0 where
  pub permutation : IsPermutation entries printed
  pub ascending : IsSortedByKey (λ e. e.range) range_cmp printed
  pub stable : IsStableByKey (λ e. e.range) range_cmp entries printed

-- The entries in the order in which they are printed.
abbrev pub ArePrinted : (sort : Bool) → (entries printed : List ListEntry) → Type 0
ArePrinted true entries printed = AreSorted entries printed
ArePrinted false entries printed = printed ≡ entries

-- The text has exactly the selected entries, as written, one a line.
pub record IsSelection (request : SelectRequest) (entries : List ListEntry) (text : List ℕ) : Type 0 where
  pub chosen : List ListEntry
  pub kept : List ListEntry
  pub printed : List ListEntry
  pub are_chosen : AreKept (λ e. IsChosen request.choice e.range) entries chosen
  pub are_kept : AreWithout request.unique chosen kept
  pub are_printed : ArePrinted request.sort kept printed
  pub spelled : text ≡ text_of_entries printed

-- The entries of all lists, list by list.
abbrev pub entries_of_lists : List (List ListEntry) → List ListEntry
entries_of_lists [] = []
entries_of_lists (entries ∷ lists) = entries ++ entries_of_lists lists

-- No line of the lists is refused, and the text has exactly their selected entries.
pub record IsSelectAnswer (request : SelectRequest) (lists : List (List ℕ)) (text : List ℕ) : Type 0 where
  pub entries : List (List ListEntry)
  pub read : AreListsRead request.grammar 0 lists entries []
  pub right : IsSelection request (entries_of_lists entries) text

-- No line of the lists is refused. `found` says whether an entry is chosen.
pub record IsSelectOutcome (request : SelectRequest) (lists : List (List ℕ)) (found : Bool) : Type 0 where
  pub entries : List (List ListEntry)
  pub read : AreListsRead request.grammar 0 lists entries []
  pub is_found : IsFoundIn (λ e. IsChosen request.choice e.range) found (entries_of_lists entries)

-- Why lists that were read have no answer: these lines are refused, or no line is and memory ran out.
abbrev pub IsSelectFailure : SelectRequest → List (List ℕ) → Fault RefusedLines Failure → Type 0
IsSelectFailure request lists (Lists lines) = HasRefused request.grammar lists lines
IsSelectFailure request lists (Other failure) = (failure ≡ Failures.Memory)
    × ((entries : List (List ListEntry)) × AreListsRead request.grammar 0 lists entries [])
