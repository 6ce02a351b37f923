use Rattle.std.proofs.Common.{arith}
use Rattle.ipnet_sets.proofs.ManyLaws.{list_of_one, list_of_two, union_of_one, union_of_two, union_of_halves}
use Rattle.ipnet_sets.proofs.set.IpSet.+union_all.Goals as goal

pub returns-in-len1-clause-members : goal.returns-in-len1-clause-members
returns-in-len1-clause-members t c =
    union_of_one c.args.sets.now _ c.clone.result c.set-item.result
    (list_of_one c.args.sets.now c.set-item.result (omega (arith, c.in-len1.len_at_least, c.in-len1.len_below))
    c.set-item.is) c.clone.ensures.cases

pub returns-in-len2-clause-members : goal.returns-in-len2-clause-members
returns-in-len2-clause-members t c =
    union_of_two c.args.sets.now c.union.result c.first-item.result c.second-item.result
    (list_of_two c.args.sets.now c.first-item.result c.second-item.result
    (omega (arith, c.in-len2.len_at_least, c.in-len2.len_below)) c.first-item.is c.second-item.is)
    c.union.ensures.members

pub returns-in_ok-back-in_default-clause-members : goal.returns-in_ok-back-in_default-clause-members
returns-in_ok-back-in_default-clause-members t c =
    union_of_halves c.args.sets.now c.union-in_default.result c.split_at.result.0.now c.split_at.result.1.now
    c.in_ok-front-in_default.front c.in_ok-back-in_default.back c.split_at.ensures.by_index.0
    c.in_ok-front-in_default.ensures.members c.in_ok-back-in_default.ensures.members
    c.union-in_default.ensures.members
