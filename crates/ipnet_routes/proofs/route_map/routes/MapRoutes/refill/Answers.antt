-- A chunk has a route.
use Rattle.std.proofs.Common.{◌<◌, length, subst, ap, arith}
use Rattle.ipnet_routes.specs.RouteMapSteps.{AreFilled}
use Rattle.ipnet_routes.proofs.route_map.routes.MapRoutes.refill.Goals as goal

pub returns-in-Some-clause-none : goal.returns-in-Some-clause-none
returns-in-Some-clause-none g c e =
    let chunk = c.in-Some.chunk.now in
    let some : 0 < length chunk.items
    = subst AreFilled c.in-Some.ensures.cases.0 c.args.self.now.filled 0 chunk (omega arith) in
    absurd (omega (arith, e, some, ap length c.as_slice-self.ensures.value))
