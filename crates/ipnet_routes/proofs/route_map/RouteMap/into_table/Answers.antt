-- The routes are a table already, so the table of them has these routes.
use Rattle.std.proofs.Common.{◌≡◌, subst}
use Rattle.std.proofs.lemmas.Result.{IfOk-weaker}
use Rattle.ipnet_routes.specs.Routes.{ip_routes, IsTableOf}
use Rattle.ipnet_routes.specs.RoutesOf.{routes_of}
use Rattle.ipnet_routes.specs.RouteMapSteps.{all_of}
use Rattle.ipnet_routes.proofs.RouteMapChanges.{same_table}
use Rattle.ipnet_routes.proofs.route_map.RouteMap.into_table.Goals as goal

pub returns : goal.returns
returns g c =
    let list = all_of c.args.self.chunks.items in
    IfOk-weaker c.from_routes.result (λ t. IsTableOf (ip_routes c.in_ok-routes.routes.items) (routes_of t))
    (λ t. routes_of t ≡ ip_routes list)
    (λ t is. same_table list (routes_of t) c.args.self.table
    (subst (λ z. IsTableOf (ip_routes z) (routes_of t)) c.in_ok-routes.ensures is)) c.from_routes.ensures.table
