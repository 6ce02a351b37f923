-- The layers of the first i classes.
use Rattle.std.proofs.Common.{take}
use Rattle.std.specs.List.{AllZip}
use Rattle.ipnet.specs.NetworkOf.{ip_network}
use Rattle.ipnet_maps.specs.Layers.{IsLayerOfCells}
use Rattle.ipnet_maps.proofs.layers.layers_of.Given as goal

abbrev pub invariant-loop-class : goal.invariant-loop-class
invariant-loop-class l =
    AllZip (IsLayerOfCells (ip_network l.frame) l.depth) (take l.class-index l.cells) l.layers.items
