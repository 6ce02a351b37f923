use Rattle.std.proofs.Common.{◌↔◌, IsNone, Contains, subst}
use Rattle.ipnet_base.specs.Network.{Network, IsSubnetOf}
use Rattle.ipnet.specs.NetworkOf.{ip_network}
use Rattle.ipnet_routes.specs.Routes.{networks_of, ip_routes}
use Rattle.ipnet_routes.specs.RouteMapSteps.{all_of}
use Rattle.ipnet_routes.proofs.route_map.RouteMap.covering.Goals as goal

pub returns-clause-none : goal.returns-clause-none
returns-clause-none g c =
    subst (λ cs. IsNone c.covering_in.result ↔ ((k : Network) → Contains (networks_of (ip_routes (all_of cs))) k
    → IsSubnetOf (ip_network c.args.network.now) k → ⊥)) c.as_slice.ensures.value c.covering_in.ensures.none
