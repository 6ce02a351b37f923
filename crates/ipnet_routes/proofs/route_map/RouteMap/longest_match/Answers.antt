-- A network holds the address if and only if it contains the network that has only this address.
use Rattle.std.proofs.Common.{IsNone}
use Rattle.std.proofs.lemmas.Option.{IfSome_then}
use Rattle.ipnet_base.specs.Address.{ip_address}
use Rattle.ipnet.specs.NetworkOf.{ip_network}
use Rattle.ipnet_routes.specs.RouteMapsOf.{map_routes}
use Rattle.ipnet_routes.proofs.RouteLaws.{none_holds, longest_holds}
use Rattle.ipnet_routes.proofs.route_map.RouteMap.longest_match.Goals as goal

pub returns-clause-none : goal.returns-clause-none
returns-clause-none g c =
    none_holds (map_routes c.args.self.now) (ip_address c.args.ip.now) (ip_network c.from-host.result)
    (IsNone c.covering.result) c.from-host.ensures c.covering.ensures.none

pub returns-clause-some : goal.returns-clause-some
returns-clause-some g c =
    IfSome_then c.covering.result c.covering.ensures.some
    (λ route. longest_holds (map_routes c.args.self.now) (ip_address c.args.ip.now) (ip_network c.from-host.result)
    (ip_network route.now.0, route.now.1) c.from-host.ensures)
