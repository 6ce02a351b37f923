use Rattle.std.proofs.Common.{◌≡◌, ◌≢◌, ◌++◌, ◌∙◌, List, ℕ, codes, true, false, sym, subst, ap, MatchOption}
use Rattle.std.proofs.lemmas.Bool.Decides.{Decides-eqb}
use Rattle.std.proofs.lemmas.List.{append_cancel_left}
use Rattle.std.proofs.lemmas.Slice.Eq.{strip_prefix_is}
use Rattle.netset_forms.proofs.names.is_new_of.Goals as goal

pub returns-in-Some : goal.returns-in-Some
returns-in-Some c =
    let whole = c.as_bytes-whole.result.now in
    let front = c.as_bytes-front.result.now in
    let rest = c.in-Some.rest.now in
    let cut = strip_prefix_is Decides-eqb whole front c.strip_prefix.result c.strip_prefix.ensures.cases in
    let some : whole ≡ front ++ rest = subst (λ r. MatchOption r ((x : List ℕ) → whole ≢ front ++ x)
    (λ x. whole ≡ front ++ x.now)) c.in-Some.is cut in
    let as_front = ap (λ z. z ++ codes ".new") c.as_bytes-front.ensures.value in (
      λ new. sym c.as_bytes-whole.ensures.value ∙ some ∙ ap (λ z. front ++ z) (c.is_new.ensures.0 new) ∙ as_front,
      λ same. c.is_new.ensures.1 (append_cancel_left front rest (codes ".new")
          (sym some ∙ c.as_bytes-whole.ensures.value ∙ same ∙ sym as_front)),
    )

pub returns-in-None : goal.returns-in-None
returns-in-None c =
    let whole = c.as_bytes-whole.result.now in
    let front = c.as_bytes-front.result.now in
    let cut = strip_prefix_is Decides-eqb whole front c.strip_prefix.result c.strip_prefix.ensures.cases in
    let none : (x : List ℕ) → whole ≢ front ++ x = subst (λ r. MatchOption r ((x : List ℕ) → whole ≢ front ++ x)
    (λ x. whole ≡ front ++ x.now)) c.in-None.is cut in
    let as_front = ap (λ z. z ++ codes ".new") c.as_bytes-front.ensures.value in (
      λ t. let clash : false ≡ true = t in absurd cc,
      λ same. absurd (none (codes ".new") (c.as_bytes-whole.ensures.value ∙ same ∙ sym as_front)),
    )
