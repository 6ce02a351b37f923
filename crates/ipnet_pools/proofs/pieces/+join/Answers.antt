-- If the set has the other half, the supernet is joined, and the half goes.
use Rattle.std.proofs.Common.{arith, inl, inr}
use Rattle.ipnet_base.proofs.ResultLaws.{true_gives, false_gives}
use Rattle.ipnet.specs.NetLaws.{ip_valid}
use Rattle.ipnet.specs.NetworkOf.{ip_network}
use Rattle.ipnet_pools.specs.BlocksOf.{blocks_of}
use Rattle.ipnet_pools.proofs.JoinLaws.{inserted_alone, inserted_same, supernet_beside, joined_more}
use Rattle.ipnet_pools.proofs.pieces.+join.Goals as goal

pub returns-in_default-clause-joined : goal.returns-in_default-clause-joined
returns-in_default-clause-joined t c =
    inserted_alone (blocks_of c.args.blocks.now) (blocks_of c.insert.new.self) (ip_network c.args.part.now)
    (ip_valid c.args.part.now) c.requires.part c.requires.beside (inl (c.supernet.ensures.none.0 (cc))) c.insert.result
    c.insert.ensures.added

pub returns-then-not-contains-clause-joined : goal.returns-then-not-contains-clause-joined
returns-then-not-contains-clause-joined t c =
    inserted_alone (blocks_of c.args.blocks.now) (blocks_of c.insert-then-not-contains.new.self)
    (ip_network c.args.part.now)
    (ip_valid c.args.part.now) c.requires.part c.requires.beside
    (inr (
      ip_network c.other_half-half.result,
      c.other_half-half.ensures.halves,
      ip_valid c.other_half-half.result,
      c.other_half-half.ensures.truncated,
      false_gives c.contains.result c.contains.ensures c.if-not-contains.true,
    ))
    c.insert-then-not-contains.result c.insert-then-not-contains.ensures.added

pub returns-then-not-contains-clause-same : goal.returns-then-not-contains-clause-same
returns-then-not-contains-clause-same t c =
    inserted_same c.args.blocks.now c.insert-then-not-contains.new.self c.insert-then-not-contains.result
    c.insert-then-not-contains.ensures.unchanged

pub join-requires : goal.join-requires
join-requires t c = (
  omega (arith, c.in-Some.ensures.some.shorter),
  (
    c.in-Some.ensures.some.truncated,
    supernet_beside (blocks_of c.args.blocks.now) (ip_network c.args.part.now) (ip_network c.in-Some.supernet)
        (ip_network c.other_half-half.result) (ip_valid c.args.part.now) c.in-Some.ensures.some
        c.other_half-half.ensures.halves c.requires.beside
        (true_gives c.contains.result c.contains.ensures c.if-not-contains.false),
  ),
)

pub returns-clause-joined : goal.returns-clause-joined
returns-clause-joined t c =
    joined_more (blocks_of c.args.blocks.now) (ip_network c.args.part.now) (ip_network c.in-Some.supernet)
    (ip_network c.other_half-half.result) (ip_valid c.args.part.now) c.in-Some.ensures.some
    c.other_half-half.ensures.halves c.requires.beside
    (true_gives c.contains.result c.contains.ensures c.if-not-contains.false)
    (blocks_of c.join.new.blocks) (blocks_of c.remove.new.self) c.in_ok-join.ensures.joined c.remove.ensures
