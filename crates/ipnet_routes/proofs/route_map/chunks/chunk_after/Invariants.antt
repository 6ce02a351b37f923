use Rattle.std.proofs.Common.{◌-◌}
use Rattle.ipnet.specs.NetworkOf.{ip_network}
use Rattle.ipnet_routes.specs.RouteMapSteps.{firsts_of}
use Rattle.ipnet_routes.proofs.RouteLaws.{IsPlaceBetween}
use Rattle.ipnet_routes.proofs.route_map.chunks.chunk_after.Given as goal

abbrev pub invariant-loop-low : goal.invariant-loop-low
invariant-loop-low g l = IsPlaceBetween (firsts_of l.chunks) (ip_network l.network) l.low l.high

abbrev pub decreases-loop-low : goal.decreases-loop-low
decreases-loop-low g l = l.high - l.low
