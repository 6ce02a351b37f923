-- The answerer of a filter or a route: its first list, and how it answers an entry of the second.
-- Only private contracts use these, except `IsAnswererFor` and `AreAnsweredBy`.
use Rattle.std.specs.Prelude.{◌≡◌, ◌↔◌, ◌⊎◌, Bool, true, not, List, ℕ, ◌++◌, string_bytes}
use Rattle.ipnet_base.specs.Address.{Address, IsAddress}
use Rattle.ipnet_sets.specs.Members.{IsMember}
use Rattle.netset_lib.specs.declared.answer.Answer.{Answer}
use Rattle.netset_lib.specs.declared.answerer.Answerer.{Answerer}
use Rattle.netset_lib.specs.declared.answerer.Answerer.TheVariants as Answerers
use Rattle.netset_lib.specs.declared.answerer.Answers.{Answers}
use Rattle.netset_lib.specs.declared.query.Query.{Query}
use Rattle.netset_lib.specs.declared.query.Query.TheVariants.{Filter, Route}
use Rattle.netset_lib.specs.EntryAnswers.{AreAnswers, IsFoundIn}
use Rattle.netset_lib.specs.Filtering.{HasAddresses, IsFilterLine}
use Rattle.netset_lib.specs.Filters.{IsOnSide, LiesIn}
use Rattle.ipnet_lists.specs.Lists.{ListEntry, IsInEntries}
use Rattle.netset_lib.specs.Replies.{AreAnswered}
use Rattle.netset_lib.specs.RouteAnswers.{IsRouteLine, HaveNone}
use Rattle.netset_lib.specs.Routing.{AreTableNetworks, InTable, HoldsEnds}

-- The answerer was made of a first list with these entries.
abbrev pub IsAnswererFor : Query → Answerer → List ListEntry → Type 0
IsAnswererFor (Filter side) (Answerers.Filter set) first =
    (x : Address) → IsAddress x → IsMember set x ↔ IsOnSide side (IsInEntries first) x
IsAnswererFor (Filter side) (Answerers.Route table) first = ⊥
IsAnswererFor Route (Answerers.Filter set) first = ⊥
IsAnswererFor Route (Answerers.Route table) first = AreTableNetworks (InTable table) first

-- Its answer to an entry.
abbrev pub IsAnswerBy : Answerer → ListEntry → List ℕ → Type 0
IsAnswerBy (Answerers.Filter set) e line = HasAddresses e.range × IsFilterLine (IsMember set) e line
IsAnswerBy (Answerers.Route table) e line = IsRouteLine (InTable table) HoldsEnds e line

-- It finds the entry: a filter keeps it, or it has no route.
abbrev pub IsFoundBy : Answerer → ListEntry → Type 0
IsFoundBy (Answerers.Filter set) e = LiesIn (IsMember set) e
IsFoundBy (Answerers.Route table) e = HaveNone (InTable table) (HoldsEnds e)

-- These are its answers to the entries.
pub record AreAnswersBy (answerer : Answerer) (answers : Answers) (entries : List ListEntry) : Type 0 where
  pub text : AreAnswers (IsAnswerBy answerer) entries (string_bytes answers.text)
  pub found : IsFoundIn (IsFoundBy answerer) answers.found entries

-- Its answer to one more entry was added.
pub record AddsAnswer (answerer : Answerer) (old new : Answers) (e : ListEntry) : Type 0 where
  pub line : List ℕ
  pub answer : IsAnswerBy answerer e line
  pub text : string_bytes new.text ≡ string_bytes old.text ++ line
  pub found : (IsFoundBy answerer e × (new.found ≡ true)) ⊎ ((¬ (IsFoundBy answerer e)) × (new.found ≡ old.found))

-- Whether it found an entry, by whether it succeeded.
abbrev pub found_by : Answerer → Bool → Bool
found_by (Answerers.Filter set) succeeded = succeeded
found_by (Answerers.Route table) succeeded = not succeeded

-- The answer is to these entries, whatever query and first list the answerer was made for.
abbrev pub AreAnsweredBy : Answerer → Answer → List ListEntry → Type 0
AreAnsweredBy answerer answer second = (query : Query) → (first : List ListEntry) → IsAnswererFor query answerer first
    → AreAnswered query first second (string_bytes answer.text) answer.succeeded
