-- The private steps of reading lists: what they make of the entries, and what they add to the refused lines.
-- Only private contracts use these.
use Rattle.std.specs.Prelude.{◌≡◌, ◌≢◌, ◌⊎◌, ◌↔◌, ◌<◌, ℕ, ◌+◌, Bool, true, false, List, [], ◌∷◌, ◌++◌, length}
use Rattle.std.specs.Prelude.{Option}
use Rattle.std.specs.Io.KnownBytes.{Consumes, IsAtEnd}
use Rattle.ipnet.specs.declared.parser.Grammar.{Grammar}
use Rattle.ipnet.specs.Lines.{lines_of}
use Rattle.ipnet_text.specs.Inputs.{GaveWhole}
use Rattle.ipnet_text.specs.Window.{held}
use Rattle.ipnet_lists.specs.declared.reader.LineReader.{LineReader}
use Rattle.ipnet_lists.specs.declared.reading.Reading.{Reading}
use Rattle.ipnet_lists.specs.Lists.{ListEntry, Refusal, AreRead, IsListRead, AreContents}
use Rattle.ipnet_lists.specs.Marks.{IsPastMark}
use Rattle.ipnet_lists.specs.RefusedLines.{HasMore}

-- What was made of some entries is now made of them and of these.
abbrev pub Adds : (IsMade IsMadeNow : List ListEntry → Type 0) → List ListEntry → Type 0
Adds IsMade IsMadeNow entries = (before : List ListEntry) → IsMade before → IsMadeNow (before ++ entries)

-- Lines with these contents come after `line` lines, and `line_after` is the number of all. They have these entries and
-- refused lines, whatever lines follow.
abbrev pub AreTexts : Grammar → ℕ → List (List ℕ) → ℕ → ℕ → List ListEntry → List Refusal → Type 0
AreTexts grammar list texts line line_after entries refusals =
    (later : List (List ℕ)) → (more : List ListEntry) → (more_refusals : List Refusal)
    → AreRead grammar list (line_after + 1) later more more_refusals
    → AreRead grammar list (line + 1) (texts ++ later) (entries ++ more) (refusals ++ more_refusals)

-- A note whether there was an entry, before and after these entries.
pub record NotesEntries (old new : Bool) (entries : List ListEntry) : Type 0 where
  pub found : new ≡ true → (old ≡ true) ⊎ (entries ≢ [])
  pub kept : old ≡ true → new ≡ true
  pub noted : entries ≢ [] → new ≡ true

-- Lines with these contents were read: something is made of their entries, and their refused lines are added.
pub record AddsLines (old new : LineReader) (texts : List (List ℕ)) (IsMade IsMadeNow : List ListEntry → Type 0)
    : Type 0 where
  pub same_grammar : new.grammar ≡ old.grammar
  pub same_list : new.list ≡ old.list
  pub entries : List ListEntry
  pub refusals : List Refusal
  pub read : AreTexts old.grammar old.list texts old.line new.line entries refusals
  pub added : HasMore old.refused new.refused refusals
  pub made : Adds IsMade IsMadeNow entries
  pub notes : NotesEntries old.has_entry new.has_entry entries

-- These lines were read.
abbrev pub ReadsLines : LineReader → LineReader → List (List ℕ) → (IsMade IsMadeNow : List ListEntry → Type 0) → Type 0
ReadsLines old new lines IsMade IsMadeNow = (texts : List (List ℕ)) × AreContents lines texts
    × AddsLines old new texts IsMade IsMadeNow

-- The first line of the bytes was read, and these are the bytes after its end.
pub record ReadsFirst (old new : LineReader) (bytes rest : List ℕ) (IsMade IsMadeNow : List ListEntry → Type 0)
    : Type 0 where
  pub line : List ℕ
  pub first : lines_of bytes ≡ line ∷ lines_of rest
  pub shorter : length rest < length bytes
  pub read : ReadsLines old new (line ∷ []) IsMade IsMadeNow

-- The bytes that were returned by the reader and whose lines are not read yet.
abbrev pub pending : Reading → List ℕ
pending r = r.carry.items ++ held r.window

-- A reader of lines, before the first line of a list.
abbrev pub at_first_line : LineReader → LineReader
at_first_line r = record {
  alloc = r.alloc;
  grammar = r.grammar;
  list = r.list;
  line = 0;
  refused = r.refused;
  has_entry = false;
}

-- A list was begun: no line of it was read, and its first bytes are pending, past a byte order mark.
pub record IsBegun (more : Bool) (left left_after : Option (List ℕ)) (old new : Reading) : Type 0 where
  pub none : new.carry.items ≡ []
  pub lines : new.lines ≡ at_first_line old.lines
  pub past : IsPastMark more left left_after new.window

-- More bytes are pending, and none of their lines was read.
pub record GoesOn (more : Bool) (left left_after : Option (List ℕ)) (old new : Reading) : Type 0 where
  pub given : List ℕ
  pub is : pending new ≡ pending old ++ given
  pub same_lines : new.lines ≡ old.lines
  pub read : Consumes left left_after given
  pub end : more ≡ false → IsAtEnd left_after

-- The front of the pending bytes was read. It is complete lines, and if `more` is false, it is all.
pub record TakesLines (more : Bool) (old new : Reading) (IsMade IsMadeNow : List ListEntry → Type 0) : Type 0 where
  pub front : List ℕ
  pub is : pending old ≡ front ++ pending new
  pub closed : more ≡ true → (rest : List ℕ) → lines_of (front ++ rest) ≡ lines_of front ++ lines_of rest
  pub all : more ≡ false → pending new ≡ []
  pub lines : ReadsLines old.lines new.lines (lines_of front) IsMade IsMadeNow

-- A list was read up to its end, its refused lines are added, and `IsMade` is true of its entries.
pub record WasMadeOf (left left_after : Option (List ℕ)) (old new : Reading) (IsMade : List ListEntry → Type 0)
    : Type 0 where
  pub bytes : List ℕ
  pub given : GaveWhole left left_after bytes
  pub entries : List ListEntry
  pub refusals : List Refusal
  pub read : IsListRead old.lines.grammar old.lines.list bytes entries refusals
  pub added : HasMore old.lines.refused new.lines.refused refusals
  pub same_grammar : new.lines.grammar ≡ old.lines.grammar
  pub next : new.lines.list ≡ old.lines.list + 1
  pub made : IsMade entries
  pub noted : (new.lines.has_entry ≡ true) ↔ (entries ≢ [])
