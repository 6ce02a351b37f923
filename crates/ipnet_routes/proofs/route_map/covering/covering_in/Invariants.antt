use Rattle.ipnet.specs.NetworkOf.{ip_network}
use Rattle.ipnet_routes.specs.Routes.{ip_networks}
use Rattle.ipnet_routes.specs.RouteMapSteps.{all_of}
use Rattle.ipnet_routes.proofs.ClimbLaws.{IsClimbedTo}
use Rattle.ipnet_routes.proofs.route_map.covering.covering_in.Given as goal

abbrev pub invariant-loop-route : goal.invariant-loop-route
invariant-loop-route g l = IsClimbedTo (ip_networks (all_of l.chunks)) (ip_network l.network) (ip_network l.wanted)

abbrev pub decreases-loop-route : goal.decreases-loop-route
decreases-loop-route g l = (ip_network l.wanted).prefix_len
