use Rattle.std.proofs.Common.{arith}
use Rattle.ipnet_sets.proofs.ManyLaws.{intersection_of_halves}
use Rattle.ipnet_sets.proofs.set.IpSet.+intersection_all.Goals as goal

pub returns-in_ok-back-in_default-clause-members : goal.returns-in_ok-back-in_default-clause-members
returns-in_ok-back-in_default-clause-members t c =
    intersection_of_halves c.args.sets.now c.intersection-in_default.result c.split_at.result.0.now
    c.split_at.result.1.now c.in_ok-front-in_default.front c.in_ok-back-in_default.back
    c.split_at.ensures.by_index.0
    (omega (arith, c.split_at.ensures.front_len, c.in_default.len_at_least))
    (omega (arith, c.split_at.ensures.back_len, c.in_default.len_at_least))
    c.in_ok-front-in_default.ensures.members c.in_ok-back-in_default.ensures.members
    c.intersection-in_default.ensures.members
