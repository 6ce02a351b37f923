-- The cells that were pushed, and the cells of the networks that are left, are the cells of the set.
use Rattle.std.proofs.Common.{length}
use Rattle.ipnet_sets.specs.Members.{IsMember}
use Rattle.ipnet_sets.specs.NetworksLeft.{networks_left}
use Rattle.ipnet_sets.specs.Pushed.{IsPushed}
use Rattle.ipnet_maps.proofs.CellLaws.{AreCellsOf}
use Rattle.ipnet_maps.proofs.cells.cells_with_some.Given as goal

abbrev pub invariant-loop-network : goal.invariant-loop-network
invariant-loop-network l =
    AreCellsOf (IsMember l.set) l.cell_len (networks_left l.network-iterator) (IsPushed l.cells)

abbrev pub decreases-loop-network : goal.decreases-loop-network
decreases-loop-network l = length (networks_left l.network-iterator)
