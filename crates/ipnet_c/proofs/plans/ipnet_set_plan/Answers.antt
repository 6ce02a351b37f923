-- Without a plan nothing is written.
use Rattle.std.proofs.Common.{Err, IsTrue, ap, subst}
use Rattle.ipnet_sets.specs.Images.{IsImage}
use Rattle.ipnet_c.specs.FactReplies.{HasNoPlan}
use Rattle.ipnet_c.proofs.FactReplies.{lengths_fit, not_planned}
use Rattle.ipnet_c.proofs.plans.ipnet_set_plan.Goals as goal

pub returns-in-Err : goal.returns-in-Err
returns-in-Err c =
    let (family, is, width_is) = c.in-Some.ensures.some in
    not_planned c.args.set.now c.args.family c.args.lengths.now c.args.buffer.now c.args.count.now c.in-Err.status
    (family, is)
    (lengths_fit c.args.family c.in-Some.width family c.args.lengths.now is width_is
    (λ any. let yes : IsTrue c.has_above.result = c.has_above.ensures.1 any in
    let no = c.if-has_above.false in absurd cc))
    (subst IsImage c.in-Ok.ensures c.in-Ok.set.image_of_a_set) c.in-Err.ensures.errors
    (λ e. subst (λ z. HasNoPlan z c.args.family c.args.lengths.now) c.in-Ok.ensures (c.in-Err.ensures.none (ap Err e)))
