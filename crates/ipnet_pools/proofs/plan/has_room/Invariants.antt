-- The networks so far are of the other family, or too small.
use Rattle.std.proofs.Common.{length}
use Rattle.ipnet.specs.NetworkOf.{ip_network}
use Rattle.ipnet_sets.specs.Members.{IsMember}
use Rattle.ipnet_sets.specs.NetworksLeft.{networks_left}
use Rattle.ipnet_pools.proofs.RoomLaws.{AreLeftToTry}
use Rattle.ipnet_pools.proofs.plan.has_room.Given as goal

abbrev pub invariant-loop-network : goal.invariant-loop-network
invariant-loop-network l =
    AreLeftToTry (IsMember l.set) (ip_network l.request).family (ip_network l.request).prefix_len
    (networks_left l.network-iterator)

abbrev pub decreases-loop-network : goal.decreases-loop-network
decreases-loop-network l = length (networks_left l.network-iterator)
