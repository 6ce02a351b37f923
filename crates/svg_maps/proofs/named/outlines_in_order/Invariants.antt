-- The outlines of the first i networks.
use Rattle.std.proofs.Common.{map, take}
use Rattle.std.specs.List.{AllZip}
use Rattle.ipnet.specs.NetworkOf.{ip_network}
use Rattle.ipnet_routes.specs.RoutesOf.{routes_of}
use Rattle.svg_maps.specs.NamedOutlines.{IsNamedOutline}
use Rattle.svg_maps.proofs.named.outlines_in_order.Given as goal

abbrev pub invariant-loop-network : goal.invariant-loop-network
invariant-loop-network l =
    AllZip (IsNamedOutline (routes_of l.names) (ip_network l.frame) l.depth)
    (map ip_network (take l.network-index l.networks)) l.outlines.items
