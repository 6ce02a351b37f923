use Rattle.ipnet.specs.NetworkOf.{ip_network}
use Rattle.ipnet_routes.specs.Routes.{ip_networks}
use Rattle.ipnet_routes.proofs.RouteLaws.{IsSearchedTo}
use Rattle.ipnet_routes.proofs.routes.nearest.Given as goal

abbrev pub invariant-loop-place : goal.invariant-loop-place
invariant-loop-place g l = IsSearchedTo (ip_networks l.routes) (ip_network l.network) l.limit l.place

abbrev pub decreases-loop-place : goal.decreases-loop-place
decreases-loop-place g l = l.place
