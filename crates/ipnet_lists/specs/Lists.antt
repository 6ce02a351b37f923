-- Lists as people keep them: the contents of their lines, the entries, and the lines that are refused.
use Rattle.std.specs.Prelude.{◌≡◌, ◌≢◌, ◌⊎◌, ◌↔◌, ℕ, ◌+◌, if◌then◌else◌}
use Rattle.std.specs.Prelude.{nat_eq, List, [], ◌∷◌, take, drop, Any}
use Rattle.std.specs.List.{starts_with}
use Rattle.ipnet_base.specs.Address.{Address}
use Rattle.ipnet_base.specs.Ranges.{AddressRange}
use Rattle.ipnet.specs.declared.parser.Grammar.{Grammar}
use Rattle.ipnet.specs.Lines.{lines_of}
use Rattle.ipnet_sets.specs.SetRanges.{IsInRange}
use Rattle.ipnet_lists.specs.declared.cause.NotEntry.{NotEntry}
use Rattle.ipnet_lists.specs.Comments.{IsCommentAt, HidesEntry}
use Rattle.ipnet_lists.specs.Entries.{HasReturn, IsEntryText, IsNoEntry, after_blanks, before_blanks}

-- The byte order mark in UTF-8 (RFC 3629, section 6).
abbrev pub byte_order_mark : List ℕ
byte_order_mark = 239 ∷ 187 ∷ 191 ∷ []

-- The bytes of a list without a byte order mark at the start.
abbrev pub after_mark : List ℕ → List ℕ
after_mark bytes = if starts_with nat_eq bytes byte_order_mark then drop 3 bytes else bytes

-- The text without blanks at its ends. The carriage return of a line end CR LF is a blank, as are space, tab and form
-- feed.
abbrev pub without_blanks : List ℕ → List ℕ
without_blanks text = before_blanks (after_blanks text)

-- The line has a carriage return between other bytes than blanks, as if the line were several lines of an old Mac.
-- Example: `10.0.0.1 # a\r10.0.0.2\r`, `# a\rb`; not `10.0.0.1 # a\r`.
abbrev pub IsBroken : List ℕ → Type 0
IsBroken line = HasReturn (without_blanks line)

-- The line, whose comment begins at this index, is not divided at its comment: it is broken, or its comment hides an
-- entry after other text. Example: `10.0.0.1 ; 10.0.0.2` at 9; not `; 10.0.0.1` at 0.
abbrev pub IsUndivided : List ℕ → ℕ → Type 0
IsUndivided line start =
    IsBroken line ⊎ ((without_blanks (take start line) ≢ []) × HidesEntry (drop start line))

-- The contents of a line: the text before its comment, without blanks around it. If the line is not divided at its
-- comment, the contents are the whole line: it is refused, and no entry is left out in silence. The grammar does not
-- matter.
-- Example: `\t10.0.0.1 # ours\r` contains `10.0.0.1`; `; 10.0.0.1` contains nothing; `10.0.0.1 ; 10.0.0.2`,
-- `10.0.0.1;` and `# a\rb` contain all that they are.
pub record IsContents (line text : List ℕ) : Type 0 where
  pub start : ℕ
  pub comment : IsCommentAt line start
  pub is : ((text ≡ without_blanks (take start line)) × ¬ (IsUndivided line start))
      ⊎ ((text ≡ without_blanks line) × IsUndivided line start)

-- The contents of each line.
abbrev pub AreContents : List (List ℕ) → List (List ℕ) → Type 0
AreContents [] texts = texts ≡ []
AreContents (line ∷ lines) texts = (text : List ℕ) × (more : List (List ℕ)) × (texts ≡ text ∷ more)
    × IsContents line text × AreContents lines more

-- An entry of a list: its text and its range.
pub record ListEntry : Type 0 where
  pub text : List ℕ
  pub range : AddressRange

-- A refused line: the index of its list from 0, its number from 1, what is refused of it, and the cause.
pub record RefusalFor (C : Type 0) : Type 0 where
  pub list : ℕ
  pub number : ℕ
  pub text : List ℕ
  pub cause : C

-- A line that is not an entry of a grammar: its contents are refused. The contents and the grammar decide which cause
-- can be named (`IsReportedCause`).
abbrev pub Refusal : Type 0
Refusal = RefusalFor NotEntry

-- The line with this number of the list with this index, whose contents are not an entry of the grammar.
abbrev pub refusal_at : Grammar → ℕ → ℕ → List ℕ → Refusal
refusal_at grammar list line text =
    record { list = list; number = line; text = text; cause = record { grammar = grammar } }

-- The first of the entries has this text, and `more` are the others.
pub record IsNextEntry (grammar : Grammar) (text : List ℕ) (entries more : List ListEntry) : Type 0 where
  pub range : AddressRange
  pub next : entries ≡ record { text = text; range = range } ∷ more
  pub writes : IsEntryText grammar text range

-- The first of the refused lines has this text, which is not an entry; `more` are the others.
pub record IsNextRefusal (grammar : Grammar) (list line : ℕ) (text : List ℕ) (refusals more : List Refusal) : Type
    0 where
  pub next : refusals ≡ refusal_at grammar list line text ∷ more
  pub no_entry : IsNoEntry grammar text

-- Lines with these contents, the first with number `line`, have these entries and refused lines, in order. Empty ones
-- are skipped.
abbrev pub AreRead : Grammar → ℕ → ℕ → List (List ℕ) → List ListEntry → List Refusal → Type 0
AreRead grammar list line [] entries refusals = (entries ≡ []) × (refusals ≡ [])
AreRead grammar list line ([] ∷ texts) entries refusals = AreRead grammar list (line + 1) texts entries refusals
AreRead grammar list line ((b ∷ text) ∷ texts) entries refusals =
    ((more : List ListEntry) × IsNextEntry grammar (b ∷ text) entries more
    × AreRead grammar list (line + 1) texts more refusals)
    ⊎ ((more : List Refusal) × IsNextRefusal grammar list line (b ∷ text) refusals more
    × AreRead grammar list (line + 1) texts entries more)

-- The bytes of the list with this index have these entries and refused lines. A list can be read in only one way.
-- Example: `10.0.0.1\n\nx # y\n` has one entry, and line 3, `x`, is refused.
abbrev pub IsListRead : Grammar → ℕ → List ℕ → List ListEntry → List Refusal → Type 0
IsListRead grammar list bytes entries refusals = (texts : List (List ℕ))
    × AreContents (lines_of (after_mark bytes)) texts × AreRead grammar list 1 texts entries refusals

-- The address lies in one of the entries.
abbrev pub IsInEntries : List ListEntry → Address → Type 0
IsInEntries entries x = Any (λ e. IsInRange e.range x) entries

-- The set has exactly the addresses of the entries.
abbrev pub HaveAddresses : (Address → Type 0) → List ListEntry → Type 0
HaveAddresses InSet entries = (x : Address) → InSet x ↔ IsInEntries entries x
