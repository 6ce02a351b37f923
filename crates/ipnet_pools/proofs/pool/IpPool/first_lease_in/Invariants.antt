-- The networks so far share no address with a lease.
use Rattle.std.proofs.Common.{length}
use Rattle.ipnet_sets.specs.Members.{IsMember}
use Rattle.ipnet_sets.specs.NetworksLeft.{networks_left}
use Rattle.ipnet_pools.proofs.WayLaws.{AreLeftToSearch}
use Rattle.ipnet_pools.proofs.pool.IpPool.first_lease_in.Given as goal

abbrev pub invariant-loop-network : goal.invariant-loop-network
invariant-loop-network g l =
    AreLeftToSearch l.self.leases.entries (IsMember l.set) (networks_left l.network-iterator)

abbrev pub decreases-loop-network : goal.decreases-loop-network
decreases-loop-network g l = length (networks_left l.network-iterator)
