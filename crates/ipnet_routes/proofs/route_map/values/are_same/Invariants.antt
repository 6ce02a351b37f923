use Rattle.std.proofs.Common.{◌≡◌, length}
use Rattle.ipnet_routes.specs.RouteMapsLeft.{routes_left}
use Rattle.ipnet_routes.specs.RouteValues.{are_equal}
use Rattle.ipnet_routes.proofs.route_map.values.are_same.Given as goal

abbrev pub invariant-loop-route : goal.invariant-loop-route
invariant-loop-route g l =
    are_equal g.V.PartialEq.eq (routes_left l.fn.routes) (routes_left l.fn.others)
    ≡ are_equal g.V.PartialEq.eq (routes_left l.routes) (routes_left l.others)

abbrev pub decreases-loop-route : goal.decreases-loop-route
decreases-loop-route g l = length (routes_left l.routes)
