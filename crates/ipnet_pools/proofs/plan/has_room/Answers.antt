-- The first maximal block that is large enough has room, or no block has.
use Rattle.std.proofs.Common.{refl, sym, ap, subst, arith}
use Rattle.ipnet_base.specs.Address.{width}
use Rattle.ipnet.specs.NetLaws.{ip_valid}
use Rattle.ipnet.specs.NetworkOf.{ip_network}
use Rattle.ipnet_sets.specs.Members.{IsMember}
use Rattle.ipnet_sets.specs.NetworksLeft.{networks_left}
use Rattle.ipnet_sets.proofs.SetEqualLaws.{member_or_not}
use Rattle.ipnet_pools.proofs.RoomLaws.{AreLeftToTry, try_begins, try_goes_on, try_finds, try_ends, same_width}
use Rattle.ipnet_pools.proofs.plan.has_room.Goals as goal
use Rattle.ipnet_pools.proofs.plan.has_room.Goals.{else-max_prefix_len-via-else-max_prefix_len}
use Rattle.ipnet_pools.proofs.plan.has_room.Goals.{else-max_prefix_len-via-then-max_prefix_len+else-prefix_len}

pub loop-network-init : goal.loop-network-init
loop-network-init c =
    let r = ip_network c.args.request.now in
    subst (λ it. AreLeftToTry (IsMember c.args.set.now) r.family r.prefix_len (networks_left it))
    (sym c.into_iter-network-iterator.ensures.into_iter_gives)
    (try_begins (IsMember c.args.set.now) r.family r.prefix_len (networks_left c.iter_networks-network-items.result)
    c.iter_networks-network-items.ensures)

pub returns-then-prefix_len : goal.returns-then-prefix_len
returns-then-prefix_len c =
    let r = ip_network c.args.request.now in
    let n = ip_network c.in-Some.network in (
      λ _. try_finds (IsMember c.args.set.now) r.family r.prefix_len (networks_left c.loop-network.network-iterator)
          (networks_left c.next.new.self) n c.in-Some.ensures.steps c.loop-network.invariant
          (ip_valid c.args.request.now).prefix_fits
          (same_width n.family r.family (omega (
            arith,
            c.max_prefix_len.ensures,
            c.max_prefix_len-in-loop-network.ensures,
            c.if-max_prefix_len.true,
          )))
          (omega (arith, c.prefix_len.ensures, c.prefix_len-then-max_prefix_len.ensures, c.if-prefix_len.true)),
      λ _. refl,
    )

pub loop-network-preserved : goal.loop-network-preserved
loop-network-preserved c =
    let r = ip_network c.args.request.now in
    let n = ip_network c.in-Some.network in
    try_goes_on (IsMember c.args.set.now) r.family r.prefix_len (networks_left c.loop-network.network-iterator)
    (networks_left c.next.new.self) n c.in-Some.ensures.steps c.loop-network.invariant
    (λ large. elim c.else-max_prefix_len.branch [
      | else-max_prefix_len-via-then-max_prefix_len+else-prefix_len w ↦
          omega (
            arith,
            w.prefix_len.ensures,
            w.prefix_len-then-max_prefix_len.ensures,
            w.if-prefix_len.false,
            large.1,
          )
      | else-max_prefix_len-via-else-max_prefix_len w ↦
          omega (
            arith,
            c.max_prefix_len.ensures,
            c.max_prefix_len-in-loop-network.ensures,
            w.if-max_prefix_len.false,
            ap width large.0,
          )
    ])

pub returns : goal.returns
returns c =
    let r = ip_network c.args.request.now in (
      λ no. absurd (cc),
      λ room. absurd (try_ends (IsMember c.args.set.now) r.family r.prefix_len (member_or_not c.args.set.now)
          (networks_left c.loop-network.network-iterator) c.in-None.ensures.steps.0 c.loop-network.invariant room),
    )
