-- The known cells and the open cell are the cells of the networks so far.
use Rattle.std.proofs.Common.{length}
use Rattle.ipnet_sets.specs.Members.{IsMember}
use Rattle.ipnet_sets.specs.NetworksLeft.{networks_left}
use Rattle.ipnet_maps.specs.LevelSteps.{IsPushedAs}
use Rattle.ipnet_maps.proofs.LevelWalkLaws.{IsWalk}
use Rattle.ipnet_maps.proofs.levels.level_cells.Given as goal

abbrev pub invariant-loop-network : goal.invariant-loop-network
invariant-loop-network l =
    IsWalk (IsMember l.set) l.cell_len (networks_left l.network-iterator) l.current (IsPushedAs l.known)

abbrev pub decreases-loop-network : goal.decreases-loop-network
decreases-loop-network l = length (networks_left l.network-iterator)
