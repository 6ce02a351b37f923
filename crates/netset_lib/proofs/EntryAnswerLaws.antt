-- Answers to the entries of a list, and whether one of them was found: for some entries, and for others after them.
use Rattle.std.proofs.Common.{◌≡◌, ◌⊎◌, ◌↔◌, Bool, true, false, ◌||◌, ℕ, List, [], ◌∷◌, ◌++◌, All, Any, sym, ap}
use Rattle.std.proofs.Common.{◌∙◌, subst, inl, inr, append_assoc}
use Rattle.std.proofs.lemmas.List.Elements.{All-nil, All-cons, All-head, All-tail, All-append}
use Rattle.ipnet_base.proofs.ListLaws.{contains_nil}
use Rattle.ipnet_sets.proofs.SetRangeLaws.{any_cases, any_here, any_there}
use Rattle.netset_lib.specs.EntryAnswers.{AreAnswers, IsFoundIn}
use Rattle.ipnet_lists.specs.Lists.{ListEntry}

pub answers_append : (Is : ListEntry → List ℕ → Type 0) (first second : List ListEntry) (text more : List ℕ)
    → AreAnswers Is first text → AreAnswers Is second more → AreAnswers Is (first ++ second) (text ++ more)
answers_append Is [] second text more h k = subst (λ z. AreAnswers Is second (z ++ more)) (sym h) k
answers_append Is (e ∷ first) second text more (line, rest, cut, is, h) k = (
  line,
  rest ++ more,
  ap (λ z. z ++ more) cut ∙ append_assoc line rest more,
  is,
  answers_append Is first second rest more h k,
)

-- the same answers in other words, for entries of which something else holds
pub answers_same : (Is Other : ListEntry → List ℕ → Type 0) (Good : ListEntry → Type 0)
    → ((e : ListEntry) (line : List ℕ) → Good e → Is e line → Other e line) → (entries : List ListEntry)
    (text : List ℕ) → All Good entries → AreAnswers Is entries text → AreAnswers Other entries text
answers_same Is Other Good same [] text good h = h
answers_same Is Other Good same (e ∷ entries) text good (line, rest, cut, is, h) = (
  line,
  rest,
  cut,
  same e line (All-head Good e entries good) is,
  answers_same Is Other Good same entries rest (All-tail Good e entries good) h,
)

any_same : (P Q Good : ListEntry → Type 0) → ((e : ListEntry) → Good e → P e → Q e) → (entries : List ListEntry)
    → All Good entries → Any P entries → Any Q entries
any_same P Q Good same [] good h = absurd (contains_nil h.1 (h.0, h.2, h.3))
any_same P Q Good same (e ∷ entries) good h = elim (any_cases P e entries h) [
  | inl here ↦ any_here Q e entries (same e (All-head Good e entries good) here)
  | inr there ↦
      any_there Q e entries (any_same P Q Good same entries (All-tail Good e entries good) there)
]

all_same : (P Q Good : ListEntry → Type 0) → ((e : ListEntry) → Good e → P e → Q e) → (entries : List ListEntry)
    → All Good entries → All P entries → All Q entries
all_same P Q Good same [] good h = All-nil Q
all_same P Q Good same (e ∷ entries) good h =
    All-cons Q e entries (same e (All-head Good e entries good) (All-head P e entries h))
    (all_same P Q Good same entries (All-tail Good e entries good) (All-tail P e entries h))

pub found_same : (P Q Good : ListEntry → Type 0) → ((e : ListEntry) → Good e → P e ↔ Q e) → (found : Bool)
    (entries : List ListEntry) → All Good entries → IsFoundIn P found entries → IsFoundIn Q found entries
found_same P Q Good same found entries good (inl (is_true, some)) =
    inl (is_true, any_same P Q Good (λ e is. (same e is).0) entries good some)
found_same P Q Good same found entries good (inr (is_false, none)) =
    inr (
      is_false,
      all_same (λ e. ¬ (P e)) (λ e. ¬ (Q e)) Good (λ e is not q. not ((same e is).1 q)) entries good none,
    )

any_front : (P : ListEntry → Type 0) (first second : List ListEntry) → Any P first → Any P (first ++ second)
any_front P [] second h = absurd (contains_nil h.1 (h.0, h.2, h.3))
any_front P (e ∷ first) second h = elim (any_cases P e first h) [
  | inl here ↦ any_here P e (first ++ second) here
  | inr there ↦ any_there P e (first ++ second) (any_front P first second there)
]

any_behind : (P : ListEntry → Type 0) (first second : List ListEntry) → Any P second → Any P (first ++ second)
any_behind P [] second h = h
any_behind P (e ∷ first) second h = any_there P e (first ++ second) (any_behind P first second h)

pub found_append : (P : ListEntry → Type 0) (found later : Bool) (first second : List ListEntry)
    → IsFoundIn P found first → IsFoundIn P later second → IsFoundIn P (found || later) (first ++ second)
found_append P found later first second (inl (is_true, some)) k =
    inl (ap (λ z. z || later) is_true, any_front P first second some)
found_append P found later first second (inr (is_false, none)) (inl (is_true, some)) =
    inl (ap (λ z. z || later) is_false ∙ is_true, any_behind P first second some)
found_append P found later first second (inr (is_false, none)) (inr (still, more)) =
    inr (ap (λ z. z || later) is_false ∙ still, All-append (λ e. ¬ (P e)) first second none more)

pub found_none : (P : ListEntry → Type 0) (found : Bool) → found ≡ false → IsFoundIn P found []
found_none P found none = inr (none, All-nil (λ e. ¬ (P e)))

-- one entry more, which is found, or changes nothing
pub found_push : (P : ListEntry → Type 0) (entries : List ListEntry) (e : ListEntry) (old new : Bool)
    → IsFoundIn P old entries → (P e × (new ≡ true)) ⊎ ((¬ (P e)) × (new ≡ old)) → IsFoundIn P new (entries ++ e ∷ [])
found_push P entries e old new h (inl (is, now)) = inl (now, any_behind P entries (e ∷ []) (any_here P e [] is))
found_push P entries e old new (inl (is_true, some)) (inr (not_it, same)) =
    inl (same ∙ is_true, any_front P entries (e ∷ []) some)
found_push P entries e old new (inr (is_false, none)) (inr (not_it, same)) =
    inr (
      same ∙ is_false,
      All-append (λ x. ¬ (P x)) entries (e ∷ []) none (All-cons (λ x. ¬ (P x)) e [] not_it (All-nil (λ x. ¬ (P x)))),
    )
