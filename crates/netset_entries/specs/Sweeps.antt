-- The pairs that share addresses, found by going through the spans in the order of their first addresses.
-- Only private contracts use these.
use Rattle.std.specs.Prelude.{◌≡◌, ◌<◌, ◌≤◌, ◌+◌, ℕ, Bool, true, false, nat_lt, nat_le, List, length, [], ◌∷◌, ◌++◌}
use Rattle.std.specs.Prelude.{Option, Some, None, All, slice_index_or}
use Rattle.std.specs.List.{take_while}
use Rattle.ipnet_base.specs.Address.{Family, IPv4}
use Rattle.ipnet_sets.specs.SetRanges.{range_of}
use Rattle.netset_entries.specs.declared.span.Span.{Span}
use Rattle.netset_entries.specs.NumberedEntries.{NumberedEntry}
use Rattle.netset_entries.specs.Overlaps.{Placed, Pair, is_asked}
use Rattle.netset_entries.specs.Spans.{AreSpans}

-- a value for indexes that a list does not have
abbrev pub no_entry : NumberedEntry
no_entry = record { line = 0; text = []; range = range_of IPv4 0 0 }

-- the entry of the span
abbrev pub placed : List NumberedEntry → Span → Placed
placed entries s = record { index = s.place; entry = slice_index_or entries s.place no_entry }

-- the entries of two spans
abbrev pub pair_of : List NumberedEntry → Span → Span → Pair
pair_of entries s t = record { first = placed entries s; second = placed entries t }

-- the spans from the start of the list that begin up to the end of the span
abbrev pub met : Span → List Span → List Span
met s spans = take_while (λ t. nat_le t.first s.last) spans

-- the pair, if it is asked for
abbrev pub if_asked : Bool → Pair → List Pair
if_asked true p = p ∷ []
if_asked false p = []

-- the pairs of the span and of the others that are asked for
abbrev pub asked_pairs : List NumberedEntry → Option ℕ → Span → List Span → List Pair
asked_pairs entries count s [] = []
asked_pairs entries count s (t ∷ others) =
    if_asked (is_asked count s.place t.place) (pair_of entries s t) ++ asked_pairs entries count s others

-- the pairs of each span and the later ones that it meets
abbrev pub pairs_of : List NumberedEntry → Option ℕ → List Span → List Pair
pairs_of entries count [] = []
pairs_of entries count (s ∷ spans) = asked_pairs entries count s (met s spans) ++ pairs_of entries count spans

-- the list has an element
abbrev pub has_some : {X : Type 0} → List X → Bool
has_some [] = false
has_some (x ∷ xs) = true

-- the spans of all entries of the family
pub record AreAllSpans (entries : List NumberedEntry) (f : Family) (spans : List Span) : Type 0 where
  pub flags : List Bool
  pub count : length flags ≡ length entries
  pub each : All (λ flag. flag ≡ true) flags
  pub are : AreSpans entries flags f spans

-- the span is of an entry of the list and of the family
abbrev pub IsPlaced : List NumberedEntry → Family → Span → Type 0
IsPlaced entries f s = (s.place < length entries) × ((placed entries s).entry.range.family ≡ f)

-- a value for indexes that a list does not have
abbrev pub no_span : Span
no_span = record { first = 0; last = 0; place = 0 }

-- of two lists, the entry at the index is of the first
abbrev pub is_of_first : Option ℕ → ℕ → Bool
is_of_first None i = true
is_of_first (Some count) i = nat_lt i count

-- from the span at the index on, the entries of this many spans are of the same list
pub record IsRun (count : Option ℕ) (spans : List Span) (most i run : ℕ) : Type 0 where
  pub some : 0 < run
  pub within : i + run ≤ most
  pub same : (j : ℕ) → i ≤ j → j < i + run → j < length spans
      → is_of_first count (slice_index_or spans j no_span).place
      ≡ is_of_first count (slice_index_or spans i no_span).place

-- a run for each of the spans, or for more
pub record AreRuns (count : Option ℕ) (spans : List Span) (runs : List ℕ) : Type 0 where
  pub enough : length spans ≤ length runs
  pub each : (i : ℕ) → i < length runs → IsRun count spans (length runs) i (slice_index_or runs i 0)
