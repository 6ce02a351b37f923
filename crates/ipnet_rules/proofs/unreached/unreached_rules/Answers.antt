-- A rule is added if it decides on no address.
use Rattle.std.proofs.Common.{◌+◌, sym, subst, arith, IfSome, IfNone}
use Rattle.ipnet_rules.specs.UnreachedRules.{IsUnreached, IsUnreachedAt}
use Rattle.ipnet_rules.proofs.UnreachedLaws.{AreUnreachedTo, unreached_push, unreached_skip, unreached_end}
use Rattle.ipnet_rules.proofs.unreached.unreached_rules.Goals as goal
use Rattle.ipnet_rules.proofs.unreached.unreached_rules.Goals.{in-Some+in_ok-push, in_default}

pub loop-place-preserved : goal.loop-place-preserved
loop-place-preserved c =
    let rules = c.args.rules.now in
    let i = c.loop-place.place in
    let found = c.loop-place.found.items in
    elim c.match-branch-3.branch [
      | in-Some+in_ok-push w ↦
          let is = subst (λ z. IfSome z (IsUnreachedAt rules i)) w.in-Some.is (c.in_ok-unreached.ensures.some
          c.in_ok-decisions.ensures) in
          subst (λ z. AreUnreachedTo rules (i + 1) z.items) (sym w.found-is)
          (subst (AreUnreachedTo rules (i + 1)) (sym w.in_ok-push.ensures.items)
          (unreached_push rules i found _ c.loop-place.invariant is.unreached is.of_place is.deciders))
      | in_default w ↦
          subst (λ z. AreUnreachedTo rules (i + 1) z.items) (sym w.found-is)
          (unreached_skip rules i found c.loop-place.invariant
          (subst (λ z. IfNone z (IsUnreached rules i → ⊥)) w.in_default.is
          (c.in_ok-unreached.ensures.none c.in_ok-decisions.ensures)))
    ]

pub returns : goal.returns
returns c =
    unreached_end c.args.rules.now c.loop-place.place c.loop-place.found.items c.loop-place.invariant
    (λ more. omega (arith, more, c.loop-place-test.false))
