-- One rule more.
use Rattle.std.proofs.Common.{◌+◌, sym, subst, IfSome, IfNone}
use Rattle.ipnet_rules.specs.UnreachedRules.{IsUnreached, IsUnreachedAt}
use Rattle.netset_lib.specs.RuleWriting.{AreAnswered}
use Rattle.netset_lib.proofs.RuleWritingLaws.{answered_none, answered_some, answered_not}
use Rattle.netset_lib.proofs.rule_writing.has_unreached.Goals as goal
use Rattle.netset_lib.proofs.rule_writing.has_unreached.Goals.{in-Some, in_default}

pub loop-place-init : goal.loop-place-init
loop-place-init c = answered_none c.args.rules.now

pub loop-place-preserved : goal.loop-place-preserved
loop-place-preserved c =
    let rules = c.args.rules.now in
    let i = c.loop-place.place in
    let some = c.loop-place.some in
    elim c.match-branch-2.branch [
      | in-Some w ↦
          subst (AreAnswered rules (i + 1)) (sym w.some-is)
          (answered_some rules i some _ c.loop-place.invariant
          (subst (λ z. IfSome z (IsUnreachedAt rules i)) w.in-Some.is (c.in_ok-_unreached.ensures.some c.requires)))
      | in_default w ↦
          subst (AreAnswered rules (i + 1)) (sym w.some-is)
          (answered_not rules i some c.loop-place.invariant
          (subst (λ z. IfNone z (IsUnreached rules i → ⊥)) w.in_default.is
          (c.in_ok-_unreached.ensures.none c.requires)))
    ]
