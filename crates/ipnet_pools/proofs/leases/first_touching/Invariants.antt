-- The leases so far share no address with the network.
use Rattle.ipnet_base.specs.Network.{InBlock}
use Rattle.ipnet.specs.NetworkOf.{ip_network}
use Rattle.ipnet_pools.proofs.WayLaws.{AreLeftToScan}
use Rattle.ipnet_pools.proofs.leases.first_touching.Given as goal

abbrev pub invariant-loop-lease : goal.invariant-loop-lease
invariant-loop-lease g l = AreLeftToScan l.fn.leases.entries (InBlock (ip_network l.network)) l.lease-iterator
