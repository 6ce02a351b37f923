-- The private steps of reading tables with texts, and of looking up entries in them.
-- Only private contracts use these.
use Rattle.std.specs.Prelude.{◌≡◌, ◌≢◌, ◌⊎◌, ◌↔◌, ℕ, true, List, [], ◌∷◌, ◌++◌, codes, length, map, slice_index}
use Rattle.std.specs.Prelude.{string_bytes, Contains}
use Rattle.std.specs.Borrow.{Bor}
use Rattle.std.specs.Str.{IsUtf8}
use Rattle.ipnet_base.specs.Network.{Network}
use Rattle.ipnet_base.specs.Blocks.{AreMaximalBlocks}
use Rattle.ipnet_base.specs.Ranges.{AddressRange}
use Rattle.ipnet.specs.CanonicalTexts.{canonical_text}
use Rattle.ipnet.specs.NetworkOf.{ip_network}
use Rattle.ipnet.specs.declared.net.IpNet.{IpNet}
use Rattle.ipnet.specs.declared.parser.Grammar.{Grammar}
use Rattle.ipnet_routes.specs.Routes.{Route, networks_of, without_host_bits}
use Rattle.ipnet_routes.specs.RoutesOf.{routes_of}
use Rattle.ipnet_sets.specs.SetRanges.{IsInRange}
use Rattle.ipnet_routes.specs.declared.routes.RouteTable.{RouteTable}
use Rattle.netset_lib.specs.declared.answerer.Answers.{Answers}
use Rattle.netset_lib.specs.declared.text_line.NotTextLine.{NotTextLine}
use Rattle.netset_lib.specs.declared.text_line.TableLine.{TableLine}
use Rattle.netset_lib.specs.declared.text_table.TextRoutes.{TextRoutes}
use Rattle.ipnet_lists.specs.Causes.{Has, HasMaskWord}
use Rattle.netset_lib.specs.EntryAnswers.{AreAnswers, IsFoundIn}
use Rattle.ipnet_lists.specs.EntryOf.{entry_range}
use Rattle.ipnet_lists.specs.Comments.{IsCommentAt}
use Rattle.ipnet_lists.specs.Lists.{ListEntry, RefusalFor}
use Rattle.ipnet_lists.specs.RefusedLines.{AreRefused}
use Rattle.netset_lib.specs.RouteAnswers.{IsLongest, HaveNone}
use Rattle.netset_lib.specs.Routing.{InTable, HoldsEnds}
use Rattle.netset_lib.specs.TextTables.{TextLine, IsLinesNetwork, IsTextOf, IsTextTable, text_part}

-- The line that a value represents.
abbrev pub line_in : TableLine → TextLine
line_in l = record { range = entry_range l.entry; text = l.text.now }

-- What `MayFollow` asks of contents and a text that is UTF-8.
pub record IsAllowed (contents text : List ℕ) : Type 0 where
  pub utf8 : IsUtf8 contents
  pub some : text ≢ []
  pub no_dash : slice_index text 0 ≢ 45
  pub no_nul : ¬ (Has 0 contents)
  pub no_mask : ¬ (HasMaskWord contents)
  pub no_comment : IsCommentAt contents (length contents)

-- The routes with their texts.
abbrev pub texts_in : List (IpNet × Bor (List ℕ)) → List (Route (List ℕ))
texts_in routes = map (λ r. (ip_network r.0, r.1.now)) routes

-- The last of the routes with this network has this value.
abbrev pub IsLastOf : {V : Type 0} → List (Route V) → Network → V → Type 0
IsLastOf [] n value = ⊥
IsLastOf (r ∷ routes) n value =
    IsLastOf routes n value ⊎ ((¬ (Contains (networks_of routes) n)) × (r ≡ (n, value)))

-- The blocks of the range are added, with this value.
abbrev pub AddsBlocks : {V : Type 0} → List (Route V) → AddressRange → V → List (Route V) → Type 0
AddsBlocks old range value new = (blocks : List Network) × AreMaximalBlocks (IsInRange range) 0 blocks
    × (new ≡ old ++ map (λ n. (n, value)) blocks)

-- The routes have the networks of these lines, and the last route of a network has the text of the network.
pub record AreRoutesOf (lines : List TextLine) (routes : List (Route (List ℕ))) : Type 0 where
  pub networks : (n : Network) → Contains (networks_of routes) n ↔ IsLinesNetwork lines n
  pub texts : (n : Network) (text : List ℕ) → IsLastOf routes n text → IsTextOf lines n text

-- The routes and the refused lines of the bytes.
abbrev pub AreTextsRead : Grammar → List ℕ → TextRoutes → Type 0
AreTextsRead grammar bytes made = (lines : List TextLine) × (refusals : List (RefusalFor NotTextLine))
    × IsTextTable grammar bytes lines refusals × AreRefused made.refused refusals
    × AreRoutesOf lines (without_host_bits (texts_in made.routes.items))

-- The line of an entry with this network and this text after it.
abbrev pub text_route_line : List ℕ → IpNet → List ℕ → List ℕ
text_route_line written network text =
    written ++ codes " " ++ canonical_text (ip_network network) ++ text_part text ++ 10 ∷ []

-- The answer of the table to an entry.
abbrev pub IsTextAnswerBy : RouteTable (Bor (List ℕ)) → ListEntry → List ℕ → Type 0
IsTextAnswerBy table e line =
    ((n : Network) × (text : Bor (List ℕ)) × IsLongest (InTable table) (HoldsEnds e) n
    × Contains (routes_of table) (n, text)
    × (line ≡ e.text ++ codes " " ++ canonical_text n ++ text_part text.now ++ 10 ∷ []))
    ⊎ (HaveNone (InTable table) (HoldsEnds e) × (line ≡ e.text ++ codes " -" ++ 10 ∷ []))

-- No network of the table contains both ends of the entry.
abbrev pub IsMissingBy : RouteTable (Bor (List ℕ)) → ListEntry → Type 0
IsMissingBy table e = HaveNone (InTable table) (HoldsEnds e)

-- These are the table's answers to the entries.
pub record AreTextAnswersBy (table : RouteTable (Bor (List ℕ))) (answers : Answers) (entries : List ListEntry) : Type
    0 where
  pub text : AreAnswers (IsTextAnswerBy table) entries (string_bytes answers.text)
  pub found : IsFoundIn (IsMissingBy table) answers.found entries

-- The table's answer to one more entry was added.
pub record AddsTextAnswer (table : RouteTable (Bor (List ℕ))) (old new : Answers) (e : ListEntry) : Type 0 where
  pub line : List ℕ
  pub answer : IsTextAnswerBy table e line
  pub text : string_bytes new.text ≡ string_bytes old.text ++ line
  pub found : (IsMissingBy table e × (new.found ≡ true)) ⊎ ((¬ (IsMissingBy table e)) × (new.found ≡ old.found))
