-- What a table with texts makes of the entries of a list, one by one, and by the lines of the table.
use Rattle.std.proofs.Common.{◌≡◌, false, ℕ, List, [], ◌∷◌, ◌++◌, Some, Contains}
use Rattle.std.proofs.Common.{refl, sym, ◌∙◌, subst, inl, inr, append-nil, string_bytes}
use Rattle.std.specs.Borrow.{Bor}
use Rattle.ipnet.specs.NetworkOf.{ip_network}
use Rattle.ipnet.specs.declared.net.IpNet.{IpNet}
use Rattle.ipnet.specs.declared.parser.Grammar.{Grammar}
use Rattle.ipnet_routes.specs.RoutesOf.{routes_of}
use Rattle.ipnet_routes.specs.declared.routes.RouteTable.{RouteTable}
use Rattle.netset_lib.specs.declared.answerer.Answers.{Answers}
use Rattle.netset_lib.specs.EntryAnswers.{AreAnswers}
use Rattle.ipnet_lists.specs.Lists.{ListEntry, IsListRead}
use Rattle.ipnet_lists.specs.RefusedLines.{RefusedLines}
use Rattle.netset_lib.specs.Routing.{InTable, HoldsEnds, IsLongestIfAny}
use Rattle.netset_lib.specs.TextTables.{TextLine, IsLinesNetwork, IsTextRouteLine, HasNoTextRoute, IsTextTable}
use Rattle.netset_lib.specs.TextTables.{IsTextRouteAnswer, IsTableOfLines}
use Rattle.netset_lib.specs.TextSteps.{IsTextAnswerBy, IsMissingBy, AreTextAnswersBy, AddsTextAnswer}
use Rattle.ipnet_lists.specs.ListTexts.{IsMadeList}
use Rattle.netset_lib.specs.TextSteps.{text_route_line}
use Rattle.netset_lib.proofs.EntryAnswerLaws.{answers_append, answers_same, found_same, found_none, found_push}
use Rattle.netset_lib.proofs.ListsReading.{none_of_length}
use Rattle.netset_lib.proofs.RouteLaws.{HasSome, ends_hold, entries_some, none_same}

-- ---- one entry more

pub no_text_made : (table : RouteTable (Bor (List ℕ))) (answers : Answers) → string_bytes answers.text ≡ []
    → answers.found ≡ false → AreTextAnswersBy table answers []
no_text_made table answers empty none =
    record { text = empty; found = found_none (IsMissingBy table) answers.found none }

pub text_push : (table : RouteTable (Bor (List ℕ))) (old new : Answers) (entries : List ListEntry) (e : ListEntry)
    → AreTextAnswersBy table old entries → AddsTextAnswer table old new e
    → AreTextAnswersBy table new (entries ++ e ∷ [])
text_push table old new entries e h adds = record {
  text = subst (AreAnswers (IsTextAnswerBy table) (entries ++ e ∷ [])) (sym adds.text)
      (answers_append (IsTextAnswerBy table) entries (e ∷ []) (string_bytes old.text) adds.line h.text
      (adds.line, [], sym (append-nil adds.line), adds.answer, refl));
  found = found_push (IsMissingBy table) entries e old.found new.found h.found adds.found;
}

pub text_some : (table : RouteTable (Bor (List ℕ))) (old new : Answers) (e : ListEntry) (network : IpNet)
    (text : Bor (List ℕ)) → IsLongestIfAny (InTable table) (HoldsEnds e) (Some network)
    → Contains (routes_of table) (ip_network network, text)
    → string_bytes new.text ≡ string_bytes old.text ++ text_route_line e.text network text.now
    → new.found ≡ old.found → AddsTextAnswer table old new e
text_some table old new e network text longest there is same = record {
  line = text_route_line e.text network text.now;
  answer = inl (ip_network network, text, longest, there, refl);
  text = is;
  found = inr (λ none. none (ip_network network) longest.network longest.holds, same);
}

-- ---- by the lines of the table

line_by_lines : (lines : List TextLine) (table : RouteTable (Bor (List ℕ))) → IsTableOfLines lines table
    → (e : ListEntry) (line : List ℕ) → HasSome e → IsTextAnswerBy table e line → IsTextRouteLine lines e line
line_by_lines lines table h e line some (inl (n, text, longest, there, is)) = inl (
  n,
  text.now,
  record {
    network = (h.networks n).0 longest.network;
    holds = (ends_hold e.range n some).0 longest.holds;
    longest = λ k one holds. longest.longest k ((h.networks k).1 one) ((ends_hold e.range k some).1 holds);
  },
  h.texts n text there,
  is,
)
line_by_lines lines table h e line some (inr (none, is)) =
    inr ((none_same (InTable table) (IsLinesNetwork lines) e h.networks some).0 none, is)

-- ---- the list

-- the answers to a list without refused lines
pub text_answer : (grammar : Grammar) (bytes list : List ℕ) (lines : List TextLine)
    (table : RouteTable (Bor (List ℕ))) (answers : Answers) (refused : RefusedLines)
    → IsTextTable grammar bytes lines [] → IsTableOfLines lines table
    → IsMadeList grammar list (AreTextAnswersBy table answers) refused
    → refused.count ≡ 0 → IsTextRouteAnswer grammar bytes list answers.found (string_bytes answers.text)
text_answer grammar bytes list lines table answers refused read of_lines h none =
    let empty : h.refusals ≡ [] = none_of_length h.refusals (sym h.kept.count ∙ none) in
    let whole = subst (IsListRead grammar 0 list h.entries) empty h.read in
    let (texts, contents, are) = whole in
    let some = entries_some grammar 0 1 texts h.entries [] are in
    record {
      lines = lines;
      entries = h.entries;
      table_read = read;
      list_read = whole;
      right = answers_same (IsTextAnswerBy table) (IsTextRouteLine lines) HasSome (line_by_lines lines table of_lines)
          h.entries (string_bytes answers.text) some h.made.text;
      is_missing = found_same (IsMissingBy table) (HasNoTextRoute lines) HasSome
          (λ e has. none_same (InTable table) (IsLinesNetwork lines) e of_lines.networks has) answers.found h.entries
          some h.made.found;
    }
