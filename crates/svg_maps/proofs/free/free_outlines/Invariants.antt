-- The outlines of the first i blocks.
use Rattle.std.proofs.Common.{map, take}
use Rattle.std.specs.List.{AllZip}
use Rattle.ipnet.specs.NetworkOf.{ip_network}
use Rattle.svg_maps.specs.FreeOutlines.{IsFreeOutline}
use Rattle.svg_maps.proofs.free.free_outlines.Given as goal

abbrev pub invariant-loop-block : goal.invariant-loop-block
invariant-loop-block l =
    AllZip (IsFreeOutline l.is_largest (ip_network l.frame) l.depth) (map ip_network (take l.block-index l.blocks))
    l.outlines.items
