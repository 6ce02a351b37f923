-- Each network so far has its square.
use Rattle.std.proofs.Common.{map, take}
use Rattle.std.specs.List.{AllZip}
use Rattle.ipnet.specs.NetworkOf.{ip_network}
use Rattle.svg_maps.specs.Squares.{IsSquareOf}
use Rattle.svg_maps.proofs.square.squares_of.Given as goal

abbrev pub invariant-loop-network : goal.invariant-loop-network
invariant-loop-network l =
    AllZip (IsSquareOf (ip_network l.frame) l.depth l.counted) (map ip_network (take l.network-index l.networks))
    l.squares.items
