-- The answers to entries that were made one by one, and the answers to the query.
use Rattle.std.proofs.Common.{◌≡◌, Bool, true, false, not, ℕ, List, [], ◌∷◌, ◌++◌, All}
use Rattle.std.proofs.Common.{Some, None, refl, sym}
use Rattle.std.proofs.Common.{subst, inl, inr, append-nil, string_bytes}
use Rattle.std.proofs.lemmas.List.Elements.{All-nil, All-cons}
use Rattle.ipnet_base.specs.Address.{Address}
use Rattle.ipnet.specs.declared.net.IpNet.{IpNet}
use Rattle.ipnet_sets.specs.Members.{IsMember}
use Rattle.ipnet_routes.specs.declared.routes.RouteTable.{RouteTable}
use Rattle.netset_lib.specs.declared.answer.Answer.{Answer}
use Rattle.netset_lib.specs.declared.answerer.Answerer.{Answerer}
use Rattle.netset_lib.specs.declared.answerer.Answerer.TheVariants as Answerers
use Rattle.netset_lib.specs.declared.answerer.Answers.{Answers}
use Rattle.netset_lib.specs.declared.query.Query.{Query}
use Rattle.netset_lib.specs.declared.query.Query.TheVariants.{Filter, Route}
use Rattle.netset_lib.specs.Answering.{IsAnswererFor, IsAnswerBy, IsFoundBy, AreAnswersBy, AddsAnswer}
use Rattle.netset_lib.specs.Answering.{AreAnsweredBy, found_by}
use Rattle.netset_lib.specs.EntryAnswers.{AreAnswers, IsFoundIn}
use Rattle.netset_lib.specs.Filtering.{HasAddresses, IsFilterLine}
use Rattle.netset_lib.specs.Filters.{IsOnSide, LiesIn}
use Rattle.ipnet_lists.specs.Lists.{ListEntry, IsInEntries}
use Rattle.netset_lib.specs.Replies.{AreReplies, AreAnswered, IsFoundFor, HasNoRoute, IsKept, found_for}
use Rattle.netset_lib.specs.RouteAnswers.{IsTableNetwork, Holds, HaveNone, IsRouteLine}
use Rattle.netset_lib.specs.Routing.{InTable, HoldsEnds, IsLongestIfAny, route_line}
use Rattle.netset_lib.proofs.EntryAnswerLaws.{answers_append, answers_same, found_same, found_none, found_push}
use Rattle.netset_lib.proofs.FilterLaws.{kept_of_lines, lies_same, filter_line_same}
use Rattle.netset_lib.proofs.RouteLaws.{HasSome, line_found, line_same, none_same}

-- ---- one entry more

pub none_made : (answerer : Answerer) (answers : Answers) → string_bytes answers.text ≡ [] → answers.found ≡ false
    → AreAnswersBy answerer answers []
none_made answerer answers empty none =
    record { text = empty; found = found_none (IsFoundBy answerer) answers.found none }

pub made_push : (answerer : Answerer) (old new : Answers) (entries : List ListEntry) (e : ListEntry)
    → AreAnswersBy answerer old entries → AddsAnswer answerer old new e
    → AreAnswersBy answerer new (entries ++ e ∷ [])
made_push answerer old new entries e h adds = record {
  text = subst (AreAnswers (IsAnswerBy answerer) (entries ++ e ∷ [])) (sym adds.text)
      (answers_append (IsAnswerBy answerer) entries (e ∷ []) (string_bytes old.text) adds.line h.text
      (adds.line, [], sym (append-nil adds.line), adds.answer, refl));
  found = found_push (IsFoundBy answerer) entries e old.found new.found h.found adds.found;
}

pub routed_some : (table : RouteTable (Unit {0})) (old new : Answers) (e : ListEntry) (network : IpNet)
    → IsLongestIfAny (InTable table) (HoldsEnds e) (Some network)
    → string_bytes new.text ≡ string_bytes old.text ++ route_line e.text (Some network) → new.found ≡ old.found
    → AddsAnswer (Answerers.Route table) old new e
routed_some table old new e network longest text same = record {
  line = route_line e.text (Some network);
  answer = line_found (InTable table) e (Some network) longest;
  text = text;
  found = inr (λ none. none _ longest.network longest.holds, same);
}

pub routed_none : (table : RouteTable (Unit {0})) (old new : Answers) (e : ListEntry)
    → IsLongestIfAny (InTable table) (HoldsEnds e) None
    → string_bytes new.text ≡ string_bytes old.text ++ route_line e.text None → new.found ≡ true
    → AddsAnswer (Answerers.Route table) old new e
routed_none table old new e none text now = record {
  line = route_line e.text None;
  answer = line_found (InTable table) e None none;
  text = text;
  found = inl (none, now);
}

-- ---- the query

-- the entries that a filter answered are of addresses
all_fit : (InSet : Address → Type 0) (entries : List ListEntry) (text : List ℕ)
    → AreAnswers (λ e line. HasAddresses e.range × IsFilterLine InSet e line) entries text
    → All (λ e. HasAddresses e.range) entries
all_fit InSet [] text h = All-nil (λ e. HasAddresses e.range)
all_fit InSet (e ∷ entries) text (line, rest, cut, is, h) =
    All-cons (λ z. HasAddresses z.range) e entries is.0 (all_fit InSet entries rest h)

-- the answers, by the entries of the first list
pub replies_right : (query : Query) (answerer : Answerer) (first second : List ListEntry) (text : List ℕ)
    → IsAnswererFor query answerer first → All HasSome second → AreAnswers (IsAnswerBy answerer) second text
    → AreReplies query first second text
replies_right (Filter side) (Answerers.Filter set) first second text same some h =
    kept_of_lines (IsOnSide side (IsInEntries first)) second text
    (answers_same (IsAnswerBy (Answerers.Filter set)) (IsFilterLine (IsOnSide side (IsInEntries first)))
    (λ e. HasAddresses e.range)
    (λ e line fits is. filter_line_same (IsMember set) (IsOnSide side (IsInEntries first)) e line same fits is.1) second
    text (all_fit (IsMember set) second text h) h)
replies_right (Filter side) (Answerers.Route table) first second text same some h = absurd same
replies_right Route (Answerers.Filter set) first second text same some h = absurd same
replies_right Route (Answerers.Route table) first second text same some h =
    answers_same (IsRouteLine (InTable table) HoldsEnds) (IsRouteLine (IsTableNetwork first) Holds) HasSome
    (λ e line has. line_same (InTable table) (IsTableNetwork first) e line same has) second text some h

-- the answers, and whether the query succeeded, by the entries of the first list
pub answered_right : (query : Query) (answerer : Answerer) (first second : List ListEntry) (text : List ℕ)
    (succeeded : Bool) → IsAnswererFor query answerer first → All HasSome second
    → AreAnswers (IsAnswerBy answerer) second text → IsFoundIn (IsFoundBy answerer) (found_by answerer succeeded) second
    → AreAnswered query first second text succeeded
answered_right query answerer first second text succeeded same some h is = record {
  replies = replies_right query answerer first second text same some h;
  is_found = found query answerer same h is;
}
  where
    found : (query : Query) (answerer : Answerer) → IsAnswererFor query answerer first
        → AreAnswers (IsAnswerBy answerer) second text
        → IsFoundIn (IsFoundBy answerer) (found_by answerer succeeded) second
        → IsFoundIn (IsFoundFor query first) (found_for query succeeded) second
    found (Filter side) (Answerers.Filter set) same h is =
        found_same (LiesIn (IsMember set)) (IsKept side first) (λ e. HasAddresses e.range)
        (λ e fits. lies_same (IsMember set) (IsOnSide side (IsInEntries first)) e same fits) succeeded second
        (all_fit (IsMember set) second text h) is
    found (Filter side) (Answerers.Route table) same h is = absurd same
    found Route (Answerers.Filter set) same h is = absurd same
    found Route (Answerers.Route table) same h is =
        found_same (λ e. HaveNone (InTable table) (HoldsEnds e)) (HasNoRoute first) HasSome
        (λ e has. none_same (InTable table) (IsTableNetwork first) e same has) (not succeeded) second some is

-- what was made of the second list is the answer
pub made_answered : (answerer : Answerer) (answers : Answers) (answer : Answer) → answer.text ≡ answers.text
    → found_by answerer answer.succeeded ≡ answers.found → (second : List ListEntry) → All HasSome second
    → AreAnswersBy answerer answers second → AreAnsweredBy answerer answer second
made_answered answerer answers answer same_text same_found second some h query first for =
    subst (λ t. AreAnswered query first second (string_bytes t) answer.succeeded) (sym same_text)
    (answered_right query answerer first second (string_bytes answers.text) answer.succeeded for some h.text
    (subst (λ b. IsFoundIn (IsFoundBy answerer) b second) (sym same_found) h.found))
