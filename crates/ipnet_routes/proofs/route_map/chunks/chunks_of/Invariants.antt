use Rattle.std.proofs.Common.{◌≡◌}
use Rattle.ipnet_routes.specs.RouteMapSteps.{all_of, AreFilled}
use Rattle.ipnet_routes.proofs.route_map.chunks.chunks_of.Given as goal

abbrev pub invariant-loop-route : goal.invariant-loop-route
invariant-loop-route g l = AreFilled l.chunks.items × (all_of l.chunks.items ≡ l.yielded)
