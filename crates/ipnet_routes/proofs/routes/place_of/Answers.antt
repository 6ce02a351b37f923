-- The network is in the list if and only if it is just before the place after it.
use Rattle.std.proofs.Common.{◌≡◌, ◌-◌, ◌<◌, length, get_or, sym, ap, ◌∙◌, subst, arith}
use Rattle.std.proofs.lemmas.List.{length-map, get_or-map}
use Rattle.ipnet_base.proofs.ResultLaws.{true_gives, false_gives}
use Rattle.ipnet.specs.NetworkOf.{ip_network}
use Rattle.ipnet_routes.specs.Routes.{ip_networks}
use Rattle.ipnet_routes.specs.RouteSteps.{IsPlaceOf}
use Rattle.ipnet_routes.proofs.RouteLaws.{found_network}
use Rattle.ipnet_routes.proofs.RouteWithinLaws.{place_at, place_next}
use Rattle.ipnet_routes.proofs.routes.place_of.Goals as goal

pub returns-then-place-eq0 : goal.returns-then-place-eq0
returns-then-place-eq0 g c =
    let list = c.args.routes.now in
    let n = ip_network c.args.network.now in
    let place = c.place_after-place.result in
    subst (IsPlaceOf (ip_networks list) n) c.if-place-eq0.true
    (place_next (ip_networks list) n place c.place_after-place.ensures
    (λ has. omega (
      arith,
      c.if-place-eq0.true,
      (found_network list c.requires n place c.place_after-place.ensures has).0,
    )))

pub returns-then-is_same : goal.returns-then-is_same
returns-then-is_same g c =
    let list = c.args.routes.now in
    let n = ip_network c.args.network.now in
    let place = c.place_after-place.result in
    let d = c.index-routes-place.result in
    let size = length-map list (λ z. ip_network z.0) in
    let inside : place - 1 < length list
    = omega (arith, c.place_after-place.ensures.within, size, c.if-place-eq0.false) in
    let same : ip_network (get_or list (place - 1) d).0 ≡ n
    = true_gives c.is_same.result c.is_same.ensures c.if-is_same.true in
    place_at (ip_networks list) c.requires n place c.place_after-place.ensures (
      place - 1,
      omega (arith, inside, size),
      get_or-map (λ z. ip_network z.0) list (place - 1) d n inside ∙ same,
    ) (omega (arith, c.if-place-eq0.false))

pub returns : goal.returns
returns g c =
    let list = c.args.routes.now in
    let n = ip_network c.args.network.now in
    let place = c.place_after-place.result in
    place_next (ip_networks list) n place c.place_after-place.ensures
    (λ has. false_gives c.is_same.result c.is_same.ensures c.if-is_same.false
    (ap (λ z. ip_network z.0) (sym c.index-routes-place.is)
    ∙ (found_network list c.requires n place c.place_after-place.ensures has).1 c.index-routes-place.result
    c.index-routes-place.is))
