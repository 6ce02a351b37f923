-- The entries of a list that the other entries make unnecessary, and the fewest kept entries that cover each of them.
use Rattle.std.specs.Prelude.{◌≡◌, ◌↔◌, ◌<◌, ◌≤◌, ℕ, Bool, true, false, List, [], ◌∷◌, ◌++◌, length, codes}
use Rattle.std.specs.Prelude.{Any, All, AllPairs}
use Rattle.ipnet_base.specs.Address.{Address}
use Rattle.ipnet_rules.specs.KeptRules.{IsKept, AreKept}
use Rattle.ipnet.specs.declared.parser.Grammar.{Grammar}
use Rattle.netset_entries.specs.NumberedEntries.{NumberedEntry, HoldsOfEntries}
use Rattle.netset_entries.specs.EntryPlaces.{HasAt}
use Rattle.netset_entries.specs.EntryTexts.{entry_line_at}

-- From the last entry to the first, an entry is dropped if and only if the others that are still there cover it: all
-- entries before it, and the kept ones after it. The flags say which entries are kept.
-- Example: of `10.0.0.0/9`, `10.128.0.0/9`, `10.0.0.0/8` the last is dropped, and the others are kept.
abbrev pub AreKeptEntries : List NumberedEntry → List Bool → Type 0
AreKeptEntries entries kept = AreKept (HasAt entries) (length entries) kept

-- Kept entries, by their indexes, that together have all addresses of the entry at index i.
pub record IsWitness (entries : List NumberedEntry) (kept : List Bool) (i : ℕ) (chosen : List ℕ) : Type 0 where
  pub of_kept : All (IsKept kept) chosen
  pub covers : (x : Address) → HasAt entries i x → Any (λ j. HasAt entries j x) chosen

-- Such entries, and no fewer ones cover the entry. Example: the first two of the entries above for the third.
pub record IsShortestWitness (entries : List NumberedEntry) (kept : List Bool) (i : ℕ) (chosen : List ℕ) : Type 0 where
  pub witness : IsWitness entries kept i chosen
  pub shortest : (other : List ℕ) → IsWitness entries kept i other → length chosen ≤ length other

-- A dropped entry, by its index, and kept entries that cover it.
pub record Dropped : Type 0 where
  pub index : ℕ
  pub witness : List ℕ

-- The dropped entries in the order of the list, each with the fewest kept entries that cover it.
pub record AreDropped (entries : List NumberedEntry) (kept : List Bool) (dropped : List Dropped) : Type 0 where
  pub ascending : AllPairs (λ d e. d.index < e.index) dropped
  pub members : (i : ℕ) → Any (λ d. d.index ≡ i) dropped ↔ ((i < length entries) × ¬ (IsKept kept i))
  pub witnesses : All (λ d. IsShortestWitness entries kept d.index d.witness) dropped

-- The lines of the entries at these indexes, each after two spaces.
abbrev pub witness_lines : List NumberedEntry → List ℕ → List ℕ
witness_lines entries [] = []
witness_lines entries (index ∷ indexes) =
    codes "  " ++ entry_line_at entries index ++ witness_lines entries indexes

-- The line of each dropped entry, and after it the lines of the entries that cover it.
abbrev pub dropped_lines : List NumberedEntry → List Dropped → List ℕ
dropped_lines entries [] = []
dropped_lines entries (d ∷ dropped) =
    entry_line_at entries d.index ++ witness_lines entries d.witness ++ dropped_lines entries dropped

-- The text has the dropped entries of the list, each with the fewest kept entries that cover it.
-- Example: `line 3: 10.0.0.0/8`, `  line 1: 10.0.0.0/9`, `  line 2: 10.128.0.0/9`, one a line.
pub record IsRedundantText (entries : List NumberedEntry) (text : List ℕ) : Type 0 where
  pub kept : List Bool
  pub are_kept : AreKeptEntries entries kept
  pub dropped : List Dropped
  pub are_dropped : AreDropped entries kept dropped
  pub spelled : text ≡ dropped_lines entries dropped

-- Some entry of the list is dropped.
pub record HasDropped (entries : List NumberedEntry) : Type 0 where
  pub kept : List Bool
  pub are_kept : AreKeptEntries entries kept
  pub index : ℕ
  pub within : index < length entries
  pub dropped : ¬ (IsKept kept index)

-- All entries of the list are kept.
pub record AreAllKept (entries : List NumberedEntry) : Type 0 where
  pub kept : List Bool
  pub are_kept : AreKeptEntries entries kept
  pub all : (index : ℕ) → index < length entries → IsKept kept index

-- No line of the list is refused, and the text has its dropped entries.
abbrev pub IsRedundantAnswer : Grammar → List ℕ → List ℕ → Type 0
IsRedundantAnswer grammar bytes text = HoldsOfEntries grammar bytes (λ entries. IsRedundantText entries text)

-- Whether all entries are kept.
abbrev pub IsRedundantOutcome : Bool → List NumberedEntry → Type 0
IsRedundantOutcome true = AreAllKept
IsRedundantOutcome false = HasDropped
