-- After i boundaries the builder has the addresses of the first i of the list.
use Rattle.std.proofs.Common.{map}
use Rattle.ipnet.specs.NetworkOf.{ip_network}
use Rattle.ipnet_base.specs.Network.{InBlock}
use Rattle.ipnet_sets.specs.Pushed.{IsPushed}
use Rattle.ipnet_sets.proofs.ManyLaws.{HasFirst}
use Rattle.ipnet_sets.proofs.set.IpSet.from_networks.Given as goal

abbrev pub invariant-loop-network : goal.invariant-loop-network
invariant-loop-network l = HasFirst InBlock (map ip_network l.networks) l.network-index (IsPushed l.builder)
