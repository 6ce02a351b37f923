use Rattle.ipnet_routes.specs.RouteMapsOf.{map_routes}
use Rattle.ipnet_routes.proofs.RouteValueLaws.{equal_routes}
use Rattle.ipnet_routes.proofs.route_map.laws.maps_follow_routes.Goals as goal

pub returns-clause-equality : goal.returns-clause-equality
returns-clause-equality g c m n = equal_routes g.V.PartialEq.eq (map_routes m) (map_routes n)
