-- The routes found among those read so far.
use Rattle.std.proofs.Common.{◌≡◌, false, Contains, map, take}
use Rattle.ipnet_base.specs.Network.{IsBefore}
use Rattle.ipnet_routes.specs.Routes.{ip_route, ip_routes}
use Rattle.ipnet_routes.specs.RouteSteps.{same_value}
use Rattle.ipnet_routes.specs.RoutesOf.{routes_of}
use Rattle.ipnet_routes.proofs.RouteLackingLaws.{AreThose}
use Rattle.ipnet_routes.proofs.routes.RouteTable.lacking.Given as goal

abbrev pub invariant-loop-index : goal.invariant-loop-index
invariant-loop-index g l =
    AreThose (λ r s. IsBefore r.0 s.0)
    (λ r. (w : g.row.V.Denot) → Contains (routes_of l.other) (r.0, w)
    → same_value l.values_count g.V.PartialEq.eq w r.1 ≡ false)
    (take l.index (ip_routes l.routes)) (map ip_route l.found.items)
