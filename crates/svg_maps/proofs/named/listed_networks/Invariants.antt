-- After `i` routes the list has their networks.
use Rattle.std.proofs.Common.{◌≡◌, map, take}
use Rattle.ipnet.specs.NetworkOf.{ip_network}
use Rattle.ipnet_routes.specs.Routes.{ip_networks}
use Rattle.svg_maps.proofs.named.listed_networks.Given as goal

abbrev pub invariant-loop-route : goal.invariant-loop-route
invariant-loop-route l = map ip_network l.list.items ≡ ip_networks (take l.route-index l.routes)
