-- The rectangles of the first i networks.
use Rattle.std.proofs.Common.{map, take}
use Rattle.std.specs.List.{AllZip}
use Rattle.ipnet.specs.NetworkOf.{ip_network}
use Rattle.ipnet_maps.specs.Places.{IsRectangleIn}
use Rattle.ipnet_maps.proofs.places.rectangles_in.Given as goal

abbrev pub invariant-loop-network : goal.invariant-loop-network
invariant-loop-network l =
    AllZip (IsRectangleIn (ip_network l.frame) l.depth) (map ip_network (take l.network-index l.networks))
    l.rectangles.items
