use Rattle.std.proofs.Common.{map, take}
use Rattle.ipnet_base.specs.Stack.{AreJoined}
use Rattle.ipnet.specs.NetworkOf.{ip_network}
use Rattle.ipnet.proofs.aggregate.is_aggregated.Given as goal

abbrev pub invariant-loop-index : goal.invariant-loop-index
invariant-loop-index l = AreJoined (map ip_network (take l.index l.networks))
