use Rattle.std.proofs.Common.{◌≡◌, ◌++◌, map, length}
use Rattle.ipnet.specs.NetworkOf.{ip_network}
use Rattle.ipnet.specs.SubnetsLeft.{ip_subnets_left}
use Rattle.ipnet_bars.proofs.part.networks_of.Given as goal

abbrev pub invariant-loop-network : goal.invariant-loop-network
invariant-loop-network l =
    map ip_network l.networks.items ++ ip_subnets_left l.network-iterator ≡ ip_subnets_left l.fn.walk

abbrev pub decreases-loop-network : goal.decreases-loop-network
decreases-loop-network l = length (ip_subnets_left l.network-iterator)
