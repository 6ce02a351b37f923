use Rattle.ipnet_routes.specs.RoutesOf.{routes_of}
use Rattle.ipnet_routes.proofs.RouteValueLaws.{equal_routes}
use Rattle.ipnet_routes.proofs.routes.laws.tables_follow_routes.Goals as goal

pub returns-clause-equality : goal.returns-clause-equality
returns-clause-equality g c t u = equal_routes g.V.PartialEq.eq (routes_of t) (routes_of u)
