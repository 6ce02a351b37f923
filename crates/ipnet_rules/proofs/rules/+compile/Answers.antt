-- The rules are the first half and then the second.
use Rattle.std.proofs.Common.{◌≡◌, ◌++◌, Any, ap₂, ◌∙◌, sym, subst, inl, inr}
use Rattle.std.proofs.lemmas.List.{take-append-drop}
use Rattle.ipnet_rules.specs.declared.rules.Action.TheVariants.{Permit, Deny}
use Rattle.ipnet_rules.specs.Rules.{Matches, HasRuleVerdict}
use Rattle.ipnet_rules.proofs.VerdictLaws.{any_append, permit_append}
use Rattle.ipnet_rules.proofs.rules.+compile.Goals as goal

pub returns-clause-matched : goal.returns-clause-matched
returns-clause-matched t c x =
    let front = c.split_at.result.0.now in
    let back = c.split_at.result.1.now in
    let whole : front ++ back ≡ c.args.rules.now =
    ap₂ (λ xs ys. xs ++ ys) c.split_at.ensures.front c.split_at.ensures.back ∙ take-append-drop _ c.args.rules.now in
    let both = any_append (λ r. Matches r x) front back in
    let first = c.in_ok-first.ensures.matched x in
    let second = c.in_ok-second.ensures.matched x in
    let joined = c.in_ok-matched.ensures.members x in (
      λ m. subst (λ rs. Any (λ r. Matches r x) rs) whole
          (both.1 (elim (joined.0 m) [ inl a ↦ inl (first.0 a) | inr b ↦ inr (second.0 b) ])),
      λ a. joined.1 (elim (both.0 (subst (λ rs. Any (λ r. Matches r x) rs) (sym whole) a)) [
        | inl a ↦ inl (first.1 a)
        | inr b ↦ inr (second.1 b)
      ]),
    )

pub returns-clause-permitted : goal.returns-clause-permitted
returns-clause-permitted t c x =
    let front = c.split_at.result.0.now in
    let back = c.split_at.result.1.now in
    let whole : front ++ back ≡ c.args.rules.now =
    ap₂ (λ xs ys. xs ++ ys) c.split_at.ensures.front c.split_at.ensures.back ∙ take-append-drop _ c.args.rules.now in
    let both = permit_append Matches (λ r. r.action) front back x in
    let first = c.in_ok-first.ensures in
    let second = c.in_ok-second.ensures in
    let left = c.in_ok-left.ensures.members x in
    let joined = c.in_ok-permitted.ensures.members x in (
      λ m. subst (λ rs. HasRuleVerdict rs Deny x Permit) whole
          (both.1 (elim (joined.0 m) [
            | inl a ↦ inl ((first.permitted x).0 a)
            | inr b ↦ inr (λ a. (left.0 b).1 ((first.matched x).1 a), (second.permitted x).0 (left.0 b).0)
          ])),
      λ v. joined.1 (elim (both.0 (subst (λ rs. HasRuleVerdict rs Deny x Permit) (sym whole) v)) [
        | inl a ↦ inl ((first.permitted x).1 a)
        | inr b ↦ inr (left.1 ((second.permitted x).1 b.1, λ m. b.0 ((first.matched x).0 m)))
      ]),
    )
