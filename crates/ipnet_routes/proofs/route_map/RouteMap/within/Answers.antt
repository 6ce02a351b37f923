-- The routes within a network begin at the place of its first address, and end after its last address.
use Rattle.std.proofs.Common.{sym, subst, subst₂}
use Rattle.ipnet_base.specs.Address.{ip_address}
use Rattle.ipnet_base.specs.Network.{truncation}
use Rattle.ipnet_base.proofs.NetworkLaws.{truncation_from_relation}
use Rattle.ipnet.specs.NetworkOf.{ip_network}
use Rattle.ipnet.specs.NetLaws.{ip_valid}
use Rattle.ipnet_routes.specs.Routes.{ip_networks, ip_routes, AreWithin}
use Rattle.ipnet_routes.specs.RouteSteps.{IsTable, IsPlaceAfter, IsPlaceOf}
use Rattle.ipnet_routes.specs.RouteMapSteps.{all_of, position_of}
use Rattle.ipnet_routes.proofs.RouteLaws.{host}
use Rattle.ipnet_routes.proofs.RouteWithinLaws.{places_in_order, first_to_last, part_within}
use Rattle.ipnet_routes.proofs.route_map.RouteMap.within.Goals as goal

pub from_places-requires-clause-order : goal.from_places-requires-clause-order
from_places-requires-clause-order g c =
    let cs = c.as_slice-chunks.result.now in
    let n = ip_network c.args.network.now in
    let b = ip_address c.broadcast.result in
    let start = position_of cs c.place_of_all-start.result.chunk c.place_of_all-start.result.index in
    let end = position_of cs c.place_after_all-end.result.chunk c.place_after_all-end.result.index in
    places_in_order (ip_networks (all_of cs)) (truncation n) (host b) start end
    (first_to_last n b (ip_valid c.args.network.now) c.broadcast.ensures)
    (subst (λ k. IsPlaceOf (ip_networks (all_of cs)) k start)
    (truncation_from_relation (ip_network c.trunc-first.result) n c.trunc-first.ensures)
    c.place_of_all-start.ensures.place)
    (subst (λ k. IsPlaceAfter (ip_networks (all_of cs)) k end) c.from-last.ensures c.place_after_all-end.ensures.place)

pub returns : goal.returns
returns g c =
    let cs = c.as_slice-chunks.result.now in
    let n = ip_network c.args.network.now in
    let b = ip_address c.broadcast.result in
    let start = position_of cs c.place_of_all-start.result.chunk c.place_of_all-start.result.index in
    let end = position_of cs c.place_after_all-end.result.chunk c.place_after_all-end.result.index in
    let table : IsTable (ip_networks (all_of cs))
    = subst (λ z. IsTable (ip_networks (all_of z))) (sym c.as_slice-chunks.ensures.value) c.args.self.now.table in
    let first : IsPlaceOf (ip_networks (all_of cs)) (truncation n) start
    = subst (λ k. IsPlaceOf (ip_networks (all_of cs)) k start)
    (truncation_from_relation (ip_network c.trunc-first.result) n c.trunc-first.ensures)
    c.place_of_all-start.ensures.place in
    let after : IsPlaceAfter (ip_networks (all_of cs)) (host b) end
    = subst (λ k. IsPlaceAfter (ip_networks (all_of cs)) k end) c.from-last.ensures
    c.place_after_all-end.ensures.place in
    subst₂ (λ z left. AreWithin (ip_routes (all_of z)) n left) c.as_slice-chunks.ensures.value
    (sym c.from_places.ensures)
    (part_within (all_of cs) table n b (ip_valid c.args.network.now) c.broadcast.ensures start end first after
    (places_in_order (ip_networks (all_of cs)) (truncation n) (host b) start end
    (first_to_last n b (ip_valid c.args.network.now) c.broadcast.ensures) first after))
