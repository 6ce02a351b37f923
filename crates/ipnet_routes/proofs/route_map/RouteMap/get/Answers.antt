-- If the map has the network, it is the last one up to itself.
use Rattle.std.proofs.Common.{◌≡◌, true, false, Contains, refl, sym, subst}
use Rattle.ipnet_base.specs.Network.{Network, IsBefore, truncation}
use Rattle.ipnet_base.proofs.NetworkLaws.{truncation_from_relation}
use Rattle.ipnet_base.proofs.ResultLaws.{true_gives, false_gives}
use Rattle.ipnet.specs.NetworkOf.{ip_network}
use Rattle.ipnet_routes.specs.Routes.{ip_networks, ip_routes}
use Rattle.ipnet_routes.specs.RouteMapSteps.{all_of, IsLastUpTo}
use Rattle.ipnet_routes.proofs.RouteLaws.{same_networks, network_of_route}
use Rattle.ipnet_routes.proofs.RouteMapChanges.{get_none, get_other, get_found}
use Rattle.ipnet_routes.proofs.route_map.RouteMap.get.Goals as goal

pub returns-in_default-clause-none : goal.returns-in_default-clause-none
returns-in_default-clause-none g c =
    let n = ip_network c.args.network.now in
    let t = ip_network c.trunc-network.result in (
      λ e has. get_none (all_of c.args.self.now.chunks.items) t (truncation n)
          (truncation_from_relation t n c.trunc-network.ensures)
          (subst (λ cs. (k : Network) → Contains (ip_networks (all_of cs)) k → IsBefore t k)
          c.as_slice-chunks.ensures.value c.in_default.ensures.none) has,
      λ h. refl,
    )

pub returns-then-not-is_same-clause-none : goal.returns-then-not-is_same-clause-none
returns-then-not-is_same-clause-none g c =
    let n = ip_network c.args.network.now in
    let t = ip_network c.trunc-network.result in
    let route = c.in-Some.route.now in (
      λ e has. get_other (all_of c.args.self.now.chunks.items) t (truncation n) (ip_network route.0, route.1)
          (truncation_from_relation t n c.trunc-network.ensures)
          (subst (λ cs. IsLastUpTo (all_of cs) t (ip_network route.0, route.1)) c.as_slice-chunks.ensures.value
          c.in-Some.ensures.some) (false_gives c.is_same.result c.is_same.ensures c.if-not-is_same.true) has,
      λ h. refl,
    )

pub returns-clause-some : goal.returns-clause-some
returns-clause-some g c =
    let n = ip_network c.args.network.now in
    let t = ip_network c.trunc-network.result in
    let route = c.in-Some.route.now in
    get_found (all_of c.args.self.now.chunks.items) t (truncation n) (ip_network route.0, route.1)
    (truncation_from_relation t n c.trunc-network.ensures)
    (subst (λ cs. IsLastUpTo (all_of cs) t (ip_network route.0, route.1)) c.as_slice-chunks.ensures.value
    c.in-Some.ensures.some) (true_gives c.is_same.result c.is_same.ensures c.if-not-is_same.false)

pub returns-clause-none : goal.returns-clause-none
returns-clause-none g c =
    let list = all_of c.args.self.now.chunks.items in
    let n = truncation (ip_network c.args.network.now) in
    let found : Contains (ip_routes list) (n, c.in-Some.route.now.1) = returns-clause-some g c in (
      λ e. let apart : true ≡ false = e in absurd (cc),
      λ out. absurd (out (subst (λ z. Contains z n) (sym (same_networks list))
          (network_of_route list (n, c.in-Some.route.now.1) found))),
    )
