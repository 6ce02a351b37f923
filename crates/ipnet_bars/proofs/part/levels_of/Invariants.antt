use Rattle.std.proofs.Common.{map, take}
use Rattle.std.specs.List.{AllZip}
use Rattle.ipnet.specs.NetworkOf.{ip_network}
use Rattle.ipnet_sets.specs.Members.{IsMember}
use Rattle.ipnet_bars.specs.Parts.{IsLevelOf}
use Rattle.ipnet_bars.proofs.part.levels_of.Given as goal

abbrev pub invariant-loop-cell : goal.invariant-loop-cell
invariant-loop-cell l =
    AllZip (IsLevelOf (IsMember l.set)) (map ip_network (take l.cell-index l.cells)) l.levels.items
