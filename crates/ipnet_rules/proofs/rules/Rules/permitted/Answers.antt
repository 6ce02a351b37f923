-- Rules that permit by default permit what no rule matches.
use Rattle.std.proofs.Common.{ap₂, inl, inr, sym, subst}
use Rattle.std.proofs.lemmas.Result.{IfOk-weaker}
use Rattle.ipnet_rules.specs.declared.rules.Action.TheVariants.{Permit}
use Rattle.ipnet_rules.specs.Rules.{Matches, HasRuleVerdict}
use Rattle.ipnet_rules.proofs.VerdictLaws.{permit_by_default}
use Rattle.ipnet_rules.proofs.rules.Rules.permitted.Goals as goal

pub returns-in_ok-unmatched-in-Permit : goal.returns-in_ok-unmatched-in-Permit
returns-in_ok-unmatched-in-Permit c =
    let rules = c.as_slice.result.now in
    IfOk-weaker c.union.result _ _ (λ s h x fits.
    let same = ap₂ (λ rs d. HasRuleVerdict rs d x Permit) c.as_slice.ensures.value (sym c.in-Permit.is) in
    let by_default = permit_by_default Matches (λ r. r.action) rules x in
    let unmatched = c.in_ok-unmatched-in-Permit.ensures.members x fits in
    let compiled = c.in_ok-compiled.ensures in (
      λ m. subst (λ v. v) same
          (by_default.1 (elim ((h x).0 m) [
            | inl outside ↦ inl (λ a. unmatched.0 outside ((compiled.matched x).1 a))
            | inr inside ↦ inr ((compiled.permitted x).0 inside)
          ])),
      λ v. (h x).1 (elim (by_default.0 (subst (λ v. v) (sym same) v)) [
        | inl outside ↦ inl (unmatched.1 (λ m. outside ((compiled.matched x).0 m)))
        | inr inside ↦ inr ((compiled.permitted x).1 inside)
      ]),
    )) c.union.ensures.members
