-- The routes that values of `MapRoutes` and `MapMatches` still yield. Contracts see nothing else of a value.
use Rattle.std.specs.Prelude.{◌++◌, List}
use Rattle.ipnet_routes.specs.Routes.{Route, ip_routes}
use Rattle.ipnet_routes.specs.RouteMapSteps.{all_of, holders_of}
use Rattle.ipnet_routes.specs.declared.route_map.routes.MapRoutes.{MapRoutes}
use Rattle.ipnet_routes.specs.declared.route_map.matches.MapMatches.{MapMatches}

-- The routes that are left. Example: 10.0.0.0/8 and then 10.1.0.0/16.
abbrev pub routes_left : {V : Type 0} → MapRoutes V → List (Route V)
routes_left m = ip_routes (m.first.now ++ (all_of m.middle.now ++ m.last.now))

-- The routes that are left of the matches. Example: 10.0.0.0/8 and then 0.0.0.0/0.
abbrev pub map_matches_left : {V : Type 0} → MapMatches V → List (Route V)
map_matches_left m = holders_of (ip_routes (all_of m.chunks.now)) m.wanted
