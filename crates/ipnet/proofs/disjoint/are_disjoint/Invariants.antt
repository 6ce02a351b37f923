use Rattle.std.proofs.Common.{map, take}
use Rattle.ipnet_base.specs.Blocks.{ArePairwiseDisjoint}
use Rattle.ipnet.specs.NetworkOf.{ip_network}
use Rattle.ipnet.proofs.disjoint.are_disjoint.Given as goal

abbrev pub invariant-loop-index : goal.invariant-loop-index
invariant-loop-index l = ArePairwiseDisjoint (map ip_network (take l.index l.networks))
