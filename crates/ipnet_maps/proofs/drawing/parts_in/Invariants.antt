-- The parts of the first i sets.
use Rattle.std.proofs.Common.{take}
use Rattle.std.specs.List.{AllZip}
use Rattle.ipnet.specs.NetworkOf.{ip_network}
use Rattle.ipnet_maps.specs.Lists.{IsPartOf}
use Rattle.ipnet_maps.proofs.drawing.parts_in.Given as goal

abbrev pub invariant-loop-set : goal.invariant-loop-set
invariant-loop-set l = AllZip (IsPartOf (ip_network l.frame)) (take l.set-index l.sets) l.parts.items
