-- The networks taken, then those left in the walk, are the whole walk. Each turn takes one network.
use Rattle.std.proofs.Common.{◌≡◌, ◌≤◌, ◌++◌, length, map}
use Rattle.ipnet.specs.NetworkOf.{ipv4_network}
use Rattle.ipnet.specs.SubnetsLeft.{ipv4_subnets_left}
use Rattle.example_pools.proofs.plan.first_networks.Given as goal

abbrev pub invariant-loop-network : goal.invariant-loop-network
invariant-loop-network l = (length l.list.items ≤ l.count)
    × (ipv4_subnets_left l.fn.walk ≡ map ipv4_network l.list.items ++ ipv4_subnets_left l.network-iterator)

abbrev pub decreases-loop-network : goal.decreases-loop-network
decreases-loop-network l = length (ipv4_subnets_left l.network-iterator)
