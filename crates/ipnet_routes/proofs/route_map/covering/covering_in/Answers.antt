-- Each turn goes on to a shorter network, of a length that a route may have, which every route that holds the network
-- asked for holds too.
use Rattle.std.proofs.Common.{◌≡◌, true, false, List, Contains, refl, sym, subst, arith}
use Rattle.ipnet_base.specs.Network.{Network, IsNetwork, InBlock}
use Rattle.ipnet_base.proofs.BlockLaws.{own, own_in}
use Rattle.ipnet_base.proofs.ListLaws.{all_at}
use Rattle.ipnet_base.proofs.ResultLaws.{true_gives, false_gives}
use Rattle.ipnet.specs.declared.net.IpNet.{IpNet}
use Rattle.ipnet.specs.NetworkOf.{ip_network}
use Rattle.ipnet_routes.specs.Routes.{ip_networks}
use Rattle.ipnet_routes.specs.RouteMapSteps.{all_of}
use Rattle.ipnet_routes.proofs.RouteLaws.{network_of_route, same_networks, all_valid}
use Rattle.ipnet_routes.proofs.KnownLengthLaws.{climb_out, climb_cut}
use Rattle.ipnet_routes.proofs.ClimbLaws.{climb_start, climb_none, climb_found, climb_apart, climb_on, climb_shorter}
use Rattle.ipnet_routes.proofs.route_map.covering.covering_in.Goals as goal

-- the networks of routes are networks
all_at_valid : {V : Type 0} (list : List (IpNet × V)) (k : Network) → Contains (ip_networks list) k → IsNetwork k
all_at_valid list k c = all_at IsNetwork (ip_networks list) (all_valid list) k c

pub loop-route-init : goal.loop-route-init
loop-route-init g c =
    climb_start (ip_networks (all_of c.args.chunks.now)) (ip_network c.args.network.now)
    (ip_network c.trunc-wanted.result) c.trunc-wanted.ensures

pub returns-in_default-clause-none : goal.returns-in_default-clause-none
returns-in_default-clause-none g c =
    let list = all_of c.args.chunks.now in (
      λ e k has sub. climb_none list c.requires.table (ip_network c.args.network.now)
          (ip_network c.loop-route.wanted) c.loop-route.invariant c.in_default.ensures.none k
          (subst (λ z. Contains z k) (same_networks list) has) sub,
      λ h. refl,
    )

pub returns-then-contains-clause-some : goal.returns-then-contains-clause-some
returns-then-contains-clause-some g c =
    let route = c.in-Some.route.now in
    climb_found (all_of c.args.chunks.now) c.requires.table (ip_network c.args.network.now)
    (ip_network c.loop-route.wanted) c.loop-route.invariant (ip_network route.0, route.1) c.in-Some.ensures.some
    (true_gives c.contains.result c.contains.ensures c.if-contains.true)

pub returns-then-contains-clause-none : goal.returns-then-contains-clause-none
returns-then-contains-clause-none g c =
    let list = all_of c.args.chunks.now in
    let route = c.in-Some.route.now in (
      λ e. let apart : true ≡ false = e in absurd (cc),
      λ out. absurd (out (ip_network route.0) (subst (λ z. Contains z (ip_network route.0)) (sym (same_networks list))
          (network_of_route list (ip_network route.0, route.1) c.in-Some.ensures.some.member))
          (true_gives c.contains.result c.contains.ensures c.if-contains.true)),
    )

pub returns-in_default-common_supernet-clause-none : goal.returns-in_default-common_supernet-clause-none
returns-in_default-common_supernet-clause-none g c =
    let list = all_of c.args.chunks.now in
    let route = c.in-Some.route.now in (
      λ e k has sub. climb_apart list c.requires.table (ip_network c.args.network.now)
          (ip_network c.loop-route.wanted) c.loop-route.invariant (ip_network route.0, route.1) c.in-Some.ensures.some
          (false_gives c.contains.result c.contains.ensures c.if-contains.false)
          c.in_default-common_supernet.ensures.none k (subst (λ z. Contains z k) (same_networks list) has) sub,
      λ h. refl,
    )

pub returns-in_default-longest_up_to-clause-none : goal.returns-in_default-longest_up_to-clause-none
returns-in_default-longest_up_to-clause-none g c =
    let list = all_of c.args.chunks.now in
    let n = ip_network c.args.network.now in
    let s = ip_network c.in-Some-common_supernet.common in
    let route = c.in-Some.route.now in
    let climbed = climb_on list c.requires.table n (ip_network c.loop-route.wanted) c.loop-route.invariant
    (ip_network route.0, route.1) c.in-Some.ensures.some
    (false_gives c.contains.result c.contains.ensures c.if-contains.false) s c.in-Some-common_supernet.ensures.some in (
      λ e k has sub. climb_out (ip_networks list) (all_at_valid list) n s climbed
          (λ j a in_j le. c.in_default-longest_up_to.ensures.none j (c.requires.known.each j a)
          (subst (InBlock j) (sym c.addr.ensures) (in_j (own n) (own_in n))) (omega (arith, le, c.prefix_len.ensures)))
          k (subst (λ z. Contains z k) (same_networks list) has) sub,
      λ h. refl,
    )

pub shorten-wanted-requires : goal.shorten-wanted-requires
shorten-wanted-requires g c = omega (arith, c.in-Some-longest_up_to.ensures.some.0, c.prefix_len.ensures)

pub loop-route-smaller : goal.loop-route-smaller
loop-route-smaller g c =
    let route = c.in-Some.route.now in
    omega (
      arith,
      climb_shorter (all_of c.args.chunks.now) c.requires.table (ip_network c.args.network.now)
          (ip_network c.loop-route.wanted) c.loop-route.invariant (ip_network route.0, route.1) c.in-Some.ensures.some
          (false_gives c.contains.result c.contains.ensures c.if-contains.false)
          (ip_network c.in-Some-common_supernet.common) c.in-Some-common_supernet.ensures.some,
      c.in-Some-longest_up_to.ensures.some.0,
      c.prefix_len.ensures,
      c.shorten-wanted.ensures.same_len,
    )

pub loop-route-preserved : goal.loop-route-preserved
loop-route-preserved g c =
    let list = all_of c.args.chunks.now in
    let n = ip_network c.args.network.now in
    let s = ip_network c.in-Some-common_supernet.common in
    let route = c.in-Some.route.now in
    let climbed = climb_on list c.requires.table n (ip_network c.loop-route.wanted) c.loop-route.invariant
    (ip_network route.0, route.1) c.in-Some.ensures.some
    (false_gives c.contains.result c.contains.ensures c.if-contains.false) s c.in-Some-common_supernet.ensures.some in
    climb_cut (ip_networks list) (all_at_valid list) n s climbed (ip_network c.shorten-wanted.result)
    c.in-Some-longest_up_to.len (omega (arith, c.in-Some-longest_up_to.ensures.some.0, c.prefix_len.ensures))
    c.shorten-wanted.ensures
    (λ j a in_j le. c.in-Some-longest_up_to.ensures.some.1 j (c.requires.known.each j a)
    (subst (InBlock j) (sym c.addr.ensures) (in_j (own n) (own_in n))) (omega (arith, le, c.prefix_len.ensures)))
