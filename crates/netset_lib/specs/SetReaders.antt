-- The lists that a reader has read.
use Rattle.std.specs.Prelude.{◌≡◌, ◌≢◌, ◌↔◌, ℕ, Bool, true, List, [], ◌∷◌, ◌++◌, length, Option}
use Rattle.ipnet.specs.declared.parser.Grammar.{Grammar}
use Rattle.ipnet_lists.specs.Lists.{ListEntry, Refusal}
use Rattle.ipnet_lists.specs.RefusedLines.{AreRefused}
use Rattle.ipnet_text.specs.Inputs.{GaveWhole}
use Rattle.netset_lib.specs.Answers.{AreListsRead}
use Rattle.netset_lib.specs.declared.set_reader.SetReader.{SetReader}

-- The reader has read exactly these lists, in this order, and these are the entries of each.
pub record WereRead (grammar : Grammar) (lists : List (List ℕ)) (entries : List (List ListEntry)) (s : SetReader)
    : Type 0 where
  pub same_grammar : s.reading.lines.grammar ≡ grammar
  pub count : s.reading.lines.list ≡ length lists
  pub refusals : List Refusal
  pub read : AreListsRead grammar 0 lists entries refusals
  pub kept : AreRefused s.reading.lines.refused refusals

-- Whether an entry of the list that was read last was found.
abbrev pub has_entry : SetReader → Bool
has_entry s = s.reading.lines.has_entry

-- How many lines of the lists that were read are refused.
abbrev pub refused_count : SetReader → ℕ
refused_count s = s.reading.lines.refused.count

-- The input gave one more list after these, up to its end, and `Of` is so of the entries of this list.
pub record IsNextRead (Of : List ListEntry → Type 0) (left left_after : Option (List ℕ)) (grammar : Grammar)
    (lists : List (List ℕ)) (entries : List (List ListEntry)) (new : SetReader) : Type 0 where
  pub bytes : List ℕ
  pub given : GaveWhole left left_after bytes
  pub next : List ListEntry
  pub read : WereRead grammar (lists ++ bytes ∷ []) (entries ++ next ∷ []) new
  pub of_next : Of next
  pub noted : (has_entry new ≡ true) ↔ (next ≢ [])

-- The reader has read one list more than before, and `Of` is so of the entries of this list.
-- Example: after the list `10.0.0.1`, and then `::1`, both were read, and `::1` is the entry of the second.
abbrev pub ReadsNext : (List ListEntry → Type 0) → Option (List ℕ) → Option (List ℕ) → SetReader → SetReader → Type 0
ReadsNext Of left left_after old new = (grammar : Grammar) → (lists : List (List ℕ))
    → (entries : List (List ListEntry)) → WereRead grammar lists entries old
    → IsNextRead Of left left_after grammar lists entries new
