-- The holders of the address's own network are its matches.
use Rattle.std.proofs.Common.{sym, subst, subst₂}
use Rattle.ipnet_base.specs.Address.{ip_address}
use Rattle.ipnet_base.specs.Network.{IsNetwork}
use Rattle.ipnet.specs.NetLaws.{ip_valid}
use Rattle.ipnet_routes.specs.Routes.{ip_routes, AreMatches}
use Rattle.ipnet_routes.specs.RouteMapSteps.{all_of, holders}
use Rattle.ipnet_routes.proofs.RouteLaws.{host}
use Rattle.ipnet_routes.proofs.RouteMapMatches.{holders_match}
use Rattle.ipnet_routes.proofs.route_map.RouteMap.matches.Goals as goal

pub returns : goal.returns
returns g c =
    let list = all_of c.args.self.now.chunks.items in
    let x = ip_address c.args.ip.now in
    let valid : IsNetwork (host x) = subst IsNetwork c.from-host.ensures (ip_valid c.from-host.result) in
    subst₂ (λ cs n. AreMatches (ip_routes list) x (holders (ip_routes (all_of cs)) n))
    (sym c.as_slice-chunks.ensures.value) (sym c.from-host.ensures)
    (holders_match list c.args.self.now.table x valid)
