-- If the chunks have the network, its place is the one before the place after it.
use Rattle.std.proofs.Common.{◌≡◌, ◌<◌, ◌≤◌, ◌+◌, length, arith, sym, ap, subst}
use Rattle.ipnet_base.proofs.ResultLaws.{true_gives, false_gives}
use Rattle.ipnet.specs.NetworkOf.{ip_network}
use Rattle.ipnet_routes.specs.Routes.{ip_networks}
use Rattle.ipnet_routes.specs.RouteSteps.{IsPlaceOf}
use Rattle.ipnet_routes.specs.RouteMapSteps.{all_of, position_of, chunk_at}
use Rattle.ipnet_routes.proofs.RouteLaws.{own_place}
use Rattle.ipnet_routes.proofs.RouteWithinLaws.{place_at, place_next}
use Rattle.ipnet_routes.proofs.route_map.chunks.place_of_all.Goals as goal

pub returns-then-is_behind-clause-chunk : goal.returns-then-is_behind-clause-chunk
returns-then-is_behind-clause-chunk g c some =
    subst (λ z. z < length c.args.chunks.now) (sym c.before-then-is_behind.ensures.chunk)
    (c.place_after_all-place.ensures.chunk some)

pub returns-then-is_behind-clause-index : goal.returns-then-is_behind-clause-index
returns-then-is_behind-clause-index g c =
    subst (λ z. c.before-then-is_behind.result.index ≤ length (chunk_at c.args.chunks.now z))
    (sym c.before-then-is_behind.ensures.chunk)
    (omega (arith, c.before-then-is_behind.ensures.index, c.place_after_all-place.ensures.index))

pub returns-then-is_behind-clause-place : goal.returns-then-is_behind-clause-place
returns-then-is_behind-clause-place g c =
    let cs = c.args.chunks.now in
    let n = ip_network c.args.network.now in
    let place = c.place_after_all-place.result in
    let before = c.before-then-is_behind.result in
    let p = position_of cs place.chunk place.index in
    let has = true_gives c.is_behind.result c.is_behind.ensures.has c.if-is_behind.true in
    let at : has.0 + 1 ≡ p
    = own_place (ip_networks (all_of cs)) c.requires.table n p c.place_after_all-place.ensures.place has in
    let same = ap (λ z. position_of cs z before.index) c.before-then-is_behind.ensures.chunk in
    subst (IsPlaceOf (ip_networks (all_of cs)) n)
    (omega (arith, at, same, c.before-then-is_behind.ensures.index))
    (place_at (ip_networks (all_of cs)) c.requires.table n p c.place_after_all-place.ensures.place has at)

pub returns-clause-place : goal.returns-clause-place
returns-clause-place g c =
    let cs = c.args.chunks.now in
    let place = c.place_after_all-place.result in
    place_next (ip_networks (all_of cs)) (ip_network c.args.network.now) (position_of cs place.chunk place.index)
    c.place_after_all-place.ensures.place
    (false_gives c.is_behind.result c.is_behind.ensures.has c.if-is_behind.false)
