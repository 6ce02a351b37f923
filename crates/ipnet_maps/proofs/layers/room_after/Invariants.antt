-- The room that is left and the networks so far are the room.
use Rattle.std.proofs.Common.{◌≡◌, ◌+◌, List, length}
use Rattle.ipnet_base.specs.Network.{Network}
use Rattle.ipnet_base.specs.Blocks.{AreMaximalBlocks}
use Rattle.ipnet_sets.specs.Members.{IsMember}
use Rattle.ipnet_sets.specs.NetworksLeft.{networks_left}
use Rattle.ipnet_maps.proofs.layers.room_after.Given as goal

abbrev pub invariant-loop-network : goal.invariant-loop-network
invariant-loop-network l = (networks : List Network) → AreMaximalBlocks (IsMember l.set) 0 networks
    → l.rest + length networks ≡ l.room + length (networks_left l._network-iterator)

abbrev pub decreases-loop-network : goal.decreases-loop-network
decreases-loop-network l = length (networks_left l._network-iterator)
