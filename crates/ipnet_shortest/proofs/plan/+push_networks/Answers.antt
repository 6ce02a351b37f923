-- The share of the index is an index of both plans.
use Rattle.std.proofs.Common.{◌≡◌, ◌<◌, length, vec_len, rules, subst, arith}
use Rattle.ipnet_base.proofs.ListLaws.{at_place}
use Rattle.ipnet_shortest.specs.Plans.{size_of, IsSound}
use Rattle.ipnet_shortest.proofs.plan.+push_networks.Goals as goal

pub index-share-requires : goal.index-share-requires
index-share-requires t c =
    let lt = subst (λ z. c.args.index < size_of z) c.in-Both.is c.requires.inside in
    let size : vec_len c.in-Both.shares ≡ length c.in-Both.shares.items = search rules in
    omega (arith, lt, size)

pub overflow_sub-index-in-Both : goal.overflow_sub-index-in-Both
overflow_sub-index-in-Both t c =
    let lt = subst (λ z. c.args.index < size_of z) c.in-Both.is c.requires.inside in
    let sound = subst IsSound c.in-Both.is c.requires.sound in
    let same = at_place c.in-Both.shares.items c.args.index c.index-share.result.now 0 lt in
    omega (arith, sound.2.within c.args.index lt, c.index-share.ensures, same)
