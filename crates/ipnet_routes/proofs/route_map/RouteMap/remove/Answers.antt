-- The route of the network is taken out, or the map does not have it.
use Rattle.std.proofs.Common.{◌≡◌, true, false, Contains, refl, sym, subst}
use Rattle.ipnet_base.specs.Network.{truncation}
use Rattle.ipnet_base.proofs.NetworkLaws.{truncation_from_relation}
use Rattle.ipnet_base.proofs.ResultLaws.{true_gives, false_gives}
use Rattle.ipnet.specs.NetworkOf.{ip_network}
use Rattle.ipnet_routes.specs.Routes.{ip_networks, ip_routes}
use Rattle.ipnet_routes.specs.RouteMaps.{IsWithoutRoute}
use Rattle.ipnet_routes.specs.RouteMapSteps.{all_of}
use Rattle.ipnet_routes.proofs.RouteLaws.{same_networks, network_of_route}
use Rattle.ipnet_routes.proofs.RouteMapChanges.{has_cut, out_cut}
use Rattle.ipnet_routes.proofs.route_map.RouteMap.remove.Goals as goal

pub returns-then-not-is_behind-clause-none : goal.returns-then-not-is_behind-clause-none
returns-then-not-is_behind-clause-none g c =
    let list = all_of c.args.self.now.chunks.items in
    let n = ip_network c.args.network.now in
    let t = ip_network c.trunc-network.result in (
      λ e. out_cut list t n c.trunc-network.ensures
          (λ has. false_gives c.is_behind.result c.is_behind.ensures.has c.if-not-is_behind.true
          (subst (λ z. Contains (ip_networks (all_of z)) t) (sym c.as_slice-chunks.ensures.value) has)),
      λ h. refl,
    )

pub returns-then-not-is_behind-clause-taken : goal.returns-then-not-is_behind-clause-taken
returns-then-not-is_behind-clause-taken g c other =
    let list = all_of c.args.self.now.chunks.items in
    let n = ip_network c.args.network.now in
    let out = (returns-then-not-is_behind-clause-none g c).0 refl in (
      λ has. (
        has,
        λ same. out (subst (λ z. Contains z (truncation n)) (sym (same_networks list))
            (subst (Contains (ip_networks list)) same (network_of_route list other has))),
      ),
      λ h. h.0,
    )

pub returns-clause-taken : goal.returns-clause-taken
returns-clause-taken g c =
    let list = all_of c.args.self.now.chunks.items in
    let n = ip_network c.args.network.now in
    subst (λ z. IsWithoutRoute (ip_routes list) z (ip_routes (all_of c.take_out-value.new.chunks.items)))
    (truncation_from_relation (ip_network c.trunc-network.result) n c.trunc-network.ensures)
    c.take_out-value.ensures.taken

pub returns-clause-none : goal.returns-clause-none
returns-clause-none g c =
    let list = all_of c.args.self.now.chunks.items in
    let n = ip_network c.args.network.now in
    let t = ip_network c.trunc-network.result in (
      λ e. let apart : true ≡ false = e in absurd (cc),
      λ out. absurd (out (has_cut list t n c.trunc-network.ensures (subst (λ z. Contains (ip_networks (all_of z)) t)
          c.as_slice-chunks.ensures.value
          (true_gives c.is_behind.result c.is_behind.ensures.has c.if-not-is_behind.false)))),
    )

pub returns-clause-some : goal.returns-clause-some
returns-clause-some g c =
    let list = all_of c.args.self.now.chunks.items in
    let n = ip_network c.args.network.now in
    subst (λ z. Contains (ip_routes list) (z, c.take_out-value.result))
    (truncation_from_relation (ip_network c.trunc-network.result) n c.trunc-network.ensures)
    c.take_out-value.ensures.value
