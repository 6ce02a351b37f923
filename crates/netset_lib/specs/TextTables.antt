-- Tables of networks with texts: lines with an entry and a text, such as a next hop, and the answers that they have.
use Rattle.std.specs.Prelude.{◌≡◌, ◌≢◌, ◌⊎◌, ◌↔◌, ℕ, Bool, List, [], ◌∷◌, ◌++◌, codes, length, slice_index, Any}
use Rattle.std.specs.Prelude.{Contains, Option}
use Rattle.std.specs.Borrow.{Bor}
use Rattle.std.specs.Str.{IsUtf8}
use Rattle.ipnet_base.specs.Network.{Network}
use Rattle.ipnet_base.specs.Blocks.{IsMaximal}
use Rattle.ipnet_base.specs.Ranges.{AddressRange}
use Rattle.ipnet.specs.CanonicalTexts.{canonical_text}
use Rattle.ipnet.specs.declared.parser.Grammar.{Grammar}
use Rattle.ipnet_routes.specs.Routes.{networks_of}
use Rattle.ipnet_routes.specs.RoutesOf.{routes_of}
use Rattle.ipnet_sets.specs.SetRanges.{IsInRange}
use Rattle.ipnet_routes.specs.declared.routes.RouteTable.{RouteTable}
use Rattle.ipnet_lists.specs.declared.cause.Cause.{Cause}
use Rattle.netset_lib.specs.declared.text_line.NotTextLine.{NotTextLine}
use Rattle.ipnet_lists.specs.Causes.{Has, HasMaskWord, IsReportedCause}
use Rattle.ipnet_lists.specs.ContentLines.{IsItemList, OrBroken}
use Rattle.ipnet_lists.specs.Entries.{HasReturn, IsEntryText, IsNoEntry}
use Rattle.netset_lib.specs.EntryAnswers.{AreAnswers, IsFoundIn}
use Rattle.ipnet_lists.specs.Comments.{IsCommentAt}
use Rattle.ipnet_lists.specs.Lists.{ListEntry, Refusal, RefusalFor, IsListRead}
use Rattle.netset_lib.specs.RouteAnswers.{Holds, IsLongest, HaveNone}
use Rattle.ipnet_lists.specs.Words.{leading_word, after_word}

-- This text may follow the entry in these contents of a line. It does not begin with "-" (45), which may be the sign of
-- a range. The contents have no NUL byte, and their second word is not a mask. They have no comment. Contents keep a
-- comment only if it hides an entry.
-- Example: `192.0.2.1 eth0` in `10.0.0.0/8 192.0.2.1 eth0`; not `- 10.0.0.9 eth0` in `10.0.0.1 - 10.0.0.9 eth0`, nor
-- `255.0.0.0` in `10.0.0.0 255.0.0.0`.
pub record MayFollow (contents text : List ℕ) : Type 0 where
  pub utf8 : IsUtf8 contents
  pub text_utf8 : IsUtf8 text
  pub some : text ≢ []
  pub no_dash : slice_index text 0 ≢ 45
  pub no_nul : ¬ (Has 0 contents)
  pub no_mask : ¬ (HasMaskWord contents)
  pub no_comment : IsCommentAt contents (length contents)

-- A line of a table: the range of its entry, and its text.
pub record TextLine : Type 0 where
  pub range : AddressRange
  pub text : List ℕ

-- The contents of a line are not an entry, but their first word is, and the text follows it after blanks.
pub record HasTextAfter (grammar : Grammar) (contents : List ℕ) (line : TextLine) : Type 0 where
  pub whole : IsNoEntry grammar contents
  pub entry : IsEntryText grammar (leading_word contents) line.range
  pub is : line.text ≡ after_word contents
  pub allowed : MayFollow contents line.text

-- The contents of a line are an entry without a text, or an entry and a text.
-- Example: `10.0.0.1 - 10.0.0.9` is an entry without a text; `10.0.0.0/8 eth0` has the text `eth0`.
abbrev pub IsTextLine : Grammar → List ℕ → TextLine → Type 0
IsTextLine grammar contents line = (IsEntryText grammar contents line.range × (line.text ≡ []))
    ⊎ HasTextAfter grammar contents line

-- The contents are refused as a whole: they have a carriage return in them, or their first word is an entry.
-- Example: `10.0.0.0 255.0.0.0`; not `10.0.0.0/33 eth0`.
abbrev pub IsRefusedWhole : Grammar → List ℕ → Type 0
IsRefusedWhole grammar contents =
    HasReturn contents ⊎ ((range : AddressRange) × IsEntryText grammar (leading_word contents) range)

-- Why contents are not such a line: the cause of the contents if these are refused as a whole, and else of their first
-- word.
-- Example: `LengthAbove32` for `10.0.0.0/33 eth0`; `MaskAfterBlank` for `10.0.0.0 255.0.0.0`.
abbrev pub IsTextCause : Grammar → List ℕ → Option Cause → Type 0
IsTextCause grammar contents cause =
    (IsRefusedWhole grammar contents × IsReportedCause grammar contents cause)
    ⊎ ((¬ (IsRefusedWhole grammar contents)) × IsReportedCause grammar (leading_word contents) cause)

-- The cause of a line that is refused in this grammar.
abbrev pub not_text_line : Grammar → NotTextLine
not_text_line grammar = record { grammar = grammar }

-- The contents are not such a line. They and the grammar decide which cause can be named (`IsTextCause`).
abbrev pub IsNoTextLine : Grammar → List ℕ → NotTextLine → Type 0
IsNoTextLine grammar contents cause =
    ((line : TextLine) → ¬ (IsTextLine grammar contents line)) × (cause ≡ not_text_line grammar)

-- Why a line of a table is refused: it has a carriage return in it, or its contents are not such a line.
-- Example: `10.0.0.0/8 eth0\r::/0 eth1`; `10.0.0.0/33 eth0`.
abbrev pub IsTextLineCause : Grammar → List ℕ → NotTextLine → Type 0
IsTextLineCause grammar = OrBroken (not_text_line grammar) (IsNoTextLine grammar)

-- The bytes are a table: each line is an entry with or without a text, or is refused. Blanks, comments and a byte order
-- mark are as in lists of entries.
-- Example: `10.0.0.0/8 eth0 # ours\n\nx\n` has the line 10.0.0.0/8 with `eth0`, and line 3 is refused.
abbrev pub IsTextTable : Grammar → List ℕ → List TextLine → List (RefusalFor NotTextLine) → Type 0
IsTextTable grammar = IsItemList (λ line. IsTextLine grammar line.text) (IsTextLineCause grammar)

-- The network is one of the table: a maximal block of the entry of a line.
-- Example: a table of `10.0.0.0/8 a` and `10.0.0.0-10.0.0.5 b` has 10.0.0.0/8, 10.0.0.0/30 and 10.0.0.4/31.
abbrev pub IsLinesNetwork : List TextLine → Network → Type 0
IsLinesNetwork lines n = Any (λ l. IsMaximal (IsInRange l.range) 0 n) lines

-- The text of a network of the table: the text of the last line with this network.
-- Example: in `10.0.0.0/8 a`, `10.0.0.0-10.255.255.255 b`, the text of 10.0.0.0/8 is `b`.
abbrev pub IsTextOf : List TextLine → Network → List ℕ → Type 0
IsTextOf [] n text = ⊥
IsTextOf (l ∷ lines) n text = IsTextOf lines n text
    ⊎ (IsMaximal (IsInRange l.range) 0 n × (¬ (IsLinesNetwork lines n)) × (text ≡ l.text))

-- The table has the networks of these lines, each with its text.
-- Example: of the lines `10.0.0.0/8 a` and `10.0.0.0-10.0.0.3 b`, it has 10.0.0.0/8 with `a` and 10.0.0.0/30 with `b`.
pub record IsTableOfLines (lines : List TextLine) (table : RouteTable (Bor (List ℕ))) : Type 0 where
  pub networks : (n : Network) → Contains (networks_of (routes_of table)) n ↔ IsLinesNetwork lines n
  pub texts : (n : Network) (text : Bor (List ℕ)) → Contains (routes_of table) (n, text) → IsTextOf lines n text.now

-- No line of the bytes is refused, and the table has the networks of the lines, each with its text.
-- Example: the bytes `10.0.0.0/8 a # x\n`, and the table of 10.0.0.0/8 with `a`.
pub record IsTableOfTexts (grammar : Grammar) (bytes : List ℕ) (table : RouteTable (Bor (List ℕ))) : Type 0 where
  pub lines : List TextLine
  pub read : IsTextTable grammar bytes lines []
  pub right : IsTableOfLines lines table

-- A text after a space, or nothing if the text is empty.
abbrev pub text_part : List ℕ → List ℕ
text_part [] = []
text_part (b ∷ text) = codes " " ++ (b ∷ text)

-- The line of an entry: its text, a space, the longest network that contains it, and the text of that network after a
-- space; or "-" if no network contains it; then "\n" (10). An empty text has no space before it.
-- Example: for the table `10.0.0.0/8 eth0`, `10.1.2.3 10.0.0.0/8 eth0` and `::1 -`.
abbrev pub IsTextRouteLine : List TextLine → ListEntry → List ℕ → Type 0
IsTextRouteLine lines e line =
    ((n : Network) × (text : List ℕ) × IsLongest (IsLinesNetwork lines) (Holds e) n × IsTextOf lines n text
    × (line ≡ e.text ++ codes " " ++ canonical_text n ++ text_part text ++ 10 ∷ []))
    ⊎ (HaveNone (IsLinesNetwork lines) (Holds e) × (line ≡ e.text ++ codes " -" ++ 10 ∷ []))

-- No network of the table contains the entry.
abbrev pub HasNoTextRoute : List TextLine → ListEntry → Type 0
HasNoTextRoute lines e = HaveNone (IsLinesNetwork lines) (Holds e)

-- No line of the table and of the list is refused, and the text has a line for each entry of the list, in order.
-- `missing` is whether an entry has no route.
pub record IsTextRouteAnswer (grammar : Grammar) (table list : List ℕ) (missing : Bool) (text : List ℕ)
    : Type 0 where
  pub lines : List TextLine
  pub entries : List ListEntry
  pub table_read : IsTextTable grammar table lines []
  pub list_read : IsListRead grammar 0 list entries []
  pub right : AreAnswers (IsTextRouteLine lines) entries text
  pub is_missing : IsFoundIn (HasNoTextRoute lines) missing entries

-- Some lines of the table are refused, and these are all of them.
pub record HasRefusedTextLines (grammar : Grammar) (table : List ℕ) (refused : List (RefusalFor NotTextLine)) : Type
    0 where
  pub lines : List TextLine
  pub read : IsTextTable grammar table lines refused
  pub some : refused ≢ []

-- Some lines of the list are refused, and these are all of them.
pub record HasRefusedEntries (grammar : Grammar) (list : List ℕ) (refusals : List Refusal) : Type 0 where
  pub entries : List ListEntry
  pub read : IsListRead grammar 0 list entries refusals
  pub some : refusals ≢ []
