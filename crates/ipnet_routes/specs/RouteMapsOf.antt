-- The routes of a value of `RouteMap`. Contracts see nothing else of a value.
use Rattle.std.specs.Prelude.{List}
use Rattle.ipnet_routes.specs.Routes.{Route, ip_routes}
use Rattle.ipnet_routes.specs.RouteMapSteps.{all_of}
use Rattle.ipnet_routes.specs.declared.route_map.RouteMap.{RouteMap}

-- The routes, in the order of their networks.
-- Example: 10.0.0.0/8 with 3, then 10.1.0.0/16 with 2.
abbrev pub map_routes : {V : Type 0} → RouteMap V → List (Route V)
map_routes m = ip_routes (all_of m.chunks.items)
