-- The networks that were pushed, and then the networks that are left, are the networks of the set.
use Rattle.std.proofs.Common.{◌++◌, map, length}
use Rattle.ipnet_base.specs.Blocks.{AreMaximalBlocks}
use Rattle.ipnet.specs.NetworkOf.{ip_network}
use Rattle.ipnet_sets.specs.Members.{IsMember}
use Rattle.ipnet_sets.specs.NetworksLeft.{networks_left}
use Rattle.ipnet_sets.proofs.set.IpSet.networks.Given as goal

abbrev pub invariant-loop-network : goal.invariant-loop-network
invariant-loop-network l =
    AreMaximalBlocks (IsMember l.self) 0 (map ip_network l.networks.items ++ networks_left l.network-iterator)

abbrev pub decreases-loop-network : goal.decreases-loop-network
decreases-loop-network l = length (networks_left l.network-iterator)
