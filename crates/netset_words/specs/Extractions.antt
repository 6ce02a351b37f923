-- The texts that an extraction has read.
use Rattle.std.specs.Prelude.{◌≡◌, ◌≢◌, ◌↔◌, ℕ, Bool, true, List, [], length}
use Rattle.netset_words.specs.declared.extraction.Extraction.{Extraction}
use Rattle.netset_words.specs.declared.item.ExtractRequest.{ExtractRequest}
use Rattle.netset_words.specs.Extracts.{WordRefusal, IsExtract, AreExtracts, text_of_texts}
use Rattle.ipnet_lists.specs.RefusedLines.{AreRefused}

-- The extraction has read exactly these texts, in this order.
pub record WereExtracted (how : ExtractRequest) (texts : List (List ℕ)) (e : Extraction) : Type 0 where
  pub same_request : e.words.request ≡ how
  pub count : e.words.list ≡ length texts
  pub entries : List (List ℕ)
  pub refusals : List WordRefusal
  pub are : AreExtracts how 0 texts entries refusals
  pub text : e.words.answer.items ≡ text_of_texts entries
  pub kept : AreRefused e.words.refused refusals

-- A text could not be read.
abbrev pub IsBroken : Extraction → Type 0
IsBroken e = e.is_broken ≡ true

-- Whether an entry was found in the text that the extraction has read last.
abbrev pub has_entry : Extraction → Bool
has_entry e = e.words.has_entry

-- How many lines of the texts that the extraction has read were refused (`WereExtracted` has them in `kept`).
abbrev pub refused_count : Extraction → ℕ
refused_count e = e.words.refused.count

-- The text with this index has an entry if and only if the note is true.
pub record IsNoted (how : ExtractRequest) (list : ℕ) (bytes : List ℕ) (note : Bool) : Type 0 where
  pub entries : List (List ℕ)
  pub refusals : List WordRefusal
  pub read : IsExtract how list bytes entries refusals
  pub noted : (note ≡ true) ↔ (entries ≢ [])
