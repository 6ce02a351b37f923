-- The network without its host bits is put in at its place, or its value is exchanged.
use Rattle.std.proofs.Common.{◌≡◌, true, false, Contains, refl, sym, subst}
use Rattle.ipnet_base.proofs.NetworkLaws.{truncation_from_relation}
use Rattle.ipnet_base.proofs.ResultLaws.{true_gives, false_gives}
use Rattle.ipnet.specs.NetworkOf.{ip_network}
use Rattle.ipnet_routes.specs.Routes.{ip_networks, ip_routes}
use Rattle.ipnet_routes.specs.RouteMaps.{IsWithRoute}
use Rattle.ipnet_routes.specs.RouteMapSteps.{all_of}
use Rattle.ipnet_routes.proofs.RouteMapChanges.{has_cut, out_cut}
use Rattle.ipnet_routes.proofs.route_map.RouteMap.insert.Goals as goal

pub returns-then-is_behind-clause-put : goal.returns-then-is_behind-clause-put
returns-then-is_behind-clause-put g c =
    let list = all_of c.args.self.now.chunks.items in
    let n = ip_network c.args.network.now in
    subst (λ z. IsWithRoute (ip_routes list) (z, c.args.value) (ip_routes (all_of c.exchange-old.new.chunks.items)))
    (truncation_from_relation (ip_network c.trunc-network.result) n c.trunc-network.ensures) c.exchange-old.ensures.put

pub returns-then-is_behind-clause-none : goal.returns-then-is_behind-clause-none
returns-then-is_behind-clause-none g c =
    let list = all_of c.args.self.now.chunks.items in
    let n = ip_network c.args.network.now in
    let t = ip_network c.trunc-network.result in (
      λ e. let apart : true ≡ false = e in absurd (cc),
      λ out. absurd (out (has_cut list t n c.trunc-network.ensures (subst (λ z. Contains (ip_networks (all_of z)) t)
          c.as_slice-chunks.ensures.value
          (true_gives c.is_behind.result c.is_behind.ensures.has c.if-is_behind.true)))),
    )

pub returns-then-is_behind-clause-some : goal.returns-then-is_behind-clause-some
returns-then-is_behind-clause-some g c =
    let list = all_of c.args.self.now.chunks.items in
    let n = ip_network c.args.network.now in
    subst (λ z. Contains (ip_routes list) (z, c.exchange-old.result))
    (truncation_from_relation (ip_network c.trunc-network.result) n c.trunc-network.ensures)
    c.exchange-old.ensures.value

pub returns-clause-put : goal.returns-clause-put
returns-clause-put g c =
    let list = all_of c.args.self.now.chunks.items in
    let n = ip_network c.args.network.now in
    subst (λ z. IsWithRoute (ip_routes list) (z, c.args.value) (ip_routes (all_of c.put_route.new.chunks.items)))
    (truncation_from_relation (ip_network c.trunc-network.result) n c.trunc-network.ensures)
    c.in_ok-put_route.ensures.put

pub returns-clause-none : goal.returns-clause-none
returns-clause-none g c =
    let list = all_of c.args.self.now.chunks.items in
    let n = ip_network c.args.network.now in
    let t = ip_network c.trunc-network.result in (
      λ e. out_cut list t n c.trunc-network.ensures
          (λ has. false_gives c.is_behind.result c.is_behind.ensures.has c.if-is_behind.false
          (subst (λ z. Contains (ip_networks (all_of z)) t) (sym c.as_slice-chunks.ensures.value) has)),
      λ h. refl,
    )
