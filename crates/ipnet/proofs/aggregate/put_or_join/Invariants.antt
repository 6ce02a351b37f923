-- The front of the list and the next network cover what the front and the network that came did, and none of them has
-- a host bit; each step takes one network from the front. If the front was a stack that does not cover the network, it
-- meets the conditions on neighbours.
use Rattle.std.proofs.Common.{◌-◌, ◌<◌, ◌≤◌, All, map, take, length, get_or}
use Rattle.ipnet_base.specs.Network.{Network, IsSubnetOf}
use Rattle.ipnet_base.specs.Stack.{AreJoined, IsBeforeOrEqual}
use Rattle.ipnet_base.proofs.AddingLaws.{IsAdding}
use Rattle.ipnet_base.proofs.StackLaws.{IsJoining}
use Rattle.ipnet.proofs.aggregate.put_or_join.Given as goal

abbrev pub invariant-loop-front : goal.invariant-loop-front
invariant-loop-front g l =
    let net = g.N.Net.network in
    let came = net l.fn.network in
    let old = map net (take l.kept l.list) in
    let front = map net (take l.front l.list) in
    record {
      at_most : l.front ≤ l.kept;
      adding : IsAdding old came front (net l.next);
      joining : AreJoined old → All (λ m. IsBeforeOrEqual m came) old
          → ((d : Network) → 0 < length old → ¬ (IsSubnetOf came (get_or old (length old - 1) d)))
          → IsJoining old came front (net l.next);
    }

abbrev pub decreases-loop-front : goal.decreases-loop-front
decreases-loop-front g l = l.front
