-- The way from the nearest network that contains the address has all its matches.
use Rattle.std.proofs.Common.{sym, subst, subst₂}
use Rattle.ipnet_base.specs.Address.{ip_address}
use Rattle.ipnet_base.specs.Network.{IsNetwork}
use Rattle.ipnet.specs.NetLaws.{ip_valid}
use Rattle.ipnet_routes.specs.Routes.{ip_networks, ip_routes, AreMatches}
use Rattle.ipnet_routes.specs.RouteSteps.{IsPlaceAfter, IsNearest, linked}
use Rattle.ipnet_routes.proofs.RouteLaws.{host}
use Rattle.ipnet_routes.proofs.RouteMatchLaws.{matches_of}
use Rattle.ipnet_routes.proofs.routes.RouteTable.matches.Goals as goal

pub returns : goal.returns
returns g c =
    let table = c.args.self.now in
    let list = table.routes.items in
    let links = table.enclosing.items in
    let x = ip_address c.args.ip.now in
    let limit = c.place_after-limit.result in
    let place = c.nearest-place.result in
    let after : IsPlaceAfter (ip_networks list) (host x) limit
    = subst₂ (λ z n. IsPlaceAfter (ip_networks z) n limit) c.as_slice-routes.ensures.value c.from-host.ensures
    c.place_after-limit.ensures in
    let near : IsNearest (ip_networks list) (host x) limit place
    = subst₂ (λ z n. IsNearest (ip_networks z) n limit place) c.as_slice-routes.ensures.value c.from-host.ensures
    c.nearest-place.ensures in
    let valid : IsNetwork (host x) = subst IsNetwork c.from-host.ensures (ip_valid c.from-host.result) in
    subst₂ (λ z l. AreMatches (ip_routes list) x (linked place (ip_routes z) l place))
    (sym c.as_slice-routes.ensures.value) (sym c.as_slice-enclosing.ensures.value)
    (matches_of list links table.table table.links table.all x valid limit place after near)
