-- The private steps of extracting entries.
-- Only private contracts use these.
use Rattle.std.specs.Prelude.{◌≡◌, ◌+◌, ◌||◌, ℕ, Bool, true, false, List, [], ◌∷◌, ◌++◌, length}
use Rattle.std.specs.Prelude.{MatchOption}
use Rattle.ipnet.specs.Lines.{lines_of}
use Rattle.ipnet_text.specs.Window.{held}
use Rattle.ipnet_lists.specs.RefusedLines.{HasMore}
use Rattle.netset_words.specs.declared.extraction.Extraction.{Extraction}
use Rattle.netset_words.specs.declared.item.ExtractRequest.{ExtractRequest}
use Rattle.netset_words.specs.declared.item.Kind.TheVariants as Kinds
use Rattle.netset_words.specs.declared.line_items.LineState.{LineState}
use Rattle.netset_words.specs.declared.word_reader.WordReader.{WordReader}
use Rattle.netset_words.specs.Extracts.{WordRefusal, AreLineExtracts, text_of_texts}
use Rattle.netset_words.specs.Items.{Item, entry_texts, mask_texts, wanted}

-- Whether there is one of the texts.
abbrev pub is_some : List (List ℕ) → Bool
is_some [] = false
is_some (text ∷ texts) = true

-- An item that is an entry, and one that is a netmask.
abbrev pub entry_item : List ℕ → Item
entry_item text = record { kind = Kinds.Entry; text = text }

abbrev pub mask_item : List ℕ → Item
mask_item text = record { kind = Kinds.Mask; text = text }

-- These items of a line were read: the wanted entries are appended to `base`, and the state has the first netmask.
pub record IsLineUpTo (how : ExtractRequest) (base : List ℕ) (items : List Item) (answer : List ℕ) (state : LineState)
    : Type 0 where
  pub text : answer ≡ base ++ text_of_texts (wanted how.first (entry_texts items))
  pub entry : state.has_entry ≡ is_some (entry_texts items)
  pub mask : MatchOption state.mask (mask_texts items ≡ [])
      (λ m. (more : List (List ℕ)) × (mask_texts items ≡ m.now ∷ more))

-- These lines were read: their entries and their refused lines are added.
pub record ReadsWords (old new : WordReader) (lines : List (List ℕ)) : Type 0 where
  pub same_request : new.request ≡ old.request
  pub same_list : new.list ≡ old.list
  pub entries : List (List ℕ)
  pub refusals : List WordRefusal
  pub read : AreLineExtracts old.request old.list (old.line + 1) lines entries refusals
  pub line : new.line ≡ old.line + length lines
  pub text : new.answer.items ≡ old.answer.items ++ text_of_texts entries
  pub added : HasMore old.refused new.refused refusals
  pub noted : new.has_entry ≡ (old.has_entry || is_some entries)

-- A reader of words before the first line of its next text.
pub record IsAtFirstLine (old new : WordReader) : Type 0 where
  pub same_request : new.request ≡ old.request
  pub same_list : new.list ≡ old.list
  pub line : new.line ≡ 0
  pub same_answer : new.answer ≡ old.answer
  pub same_refused : new.refused ≡ old.refused
  pub none : new.has_entry ≡ false

-- The lines of what was kept and of the complete lines `front` were read, or nothing if there are none.
pub record ReadsFront (more : Bool) (old new : WordReader) (carry carry_after front : List ℕ) : Type 0 where
  pub taken : List ℕ
  pub is : carry ++ front ≡ taken ++ carry_after
  pub closed : more ≡ true → (rest : List ℕ) → lines_of (taken ++ rest) ≡ lines_of taken ++ lines_of rest
  pub all : more ≡ false → carry_after ≡ []
  pub lines : ReadsWords old new (lines_of taken)

-- The bytes in the window were taken: complete lines at the front were read, or all if no more come, and the others are
-- kept as the front of a line.
pub record TakesBytes (more : Bool) (old new : Extraction) : Type 0 where
  pub front : List ℕ
  pub is : old.carry.items ++ held old.window ≡ front ++ new.carry.items
  pub empty : held new.window ≡ []
  pub closed : more ≡ true → (rest : List ℕ) → lines_of (front ++ rest) ≡ lines_of front ++ lines_of rest
  pub all : more ≡ false → new.carry.items ≡ []
  pub lines : ReadsWords old.words new.words (lines_of front)
