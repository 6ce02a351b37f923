use Rattle.std.proofs.Common.{length, string_bytes}
use Rattle.ipnet_sets.specs.Members.{IsMember}
use Rattle.ipnet_sets.specs.NetworksLeft.{networks_left}
use Rattle.ipnet_lists.proofs.SetLineLaws.{AreNetworksWritten}
use Rattle.ipnet_lists.proofs.set_lines.network_lines.Given as goal

abbrev pub invariant-loop-network : goal.invariant-loop-network
invariant-loop-network l =
    AreNetworksWritten (IsMember l.set) (string_bytes l.text) (networks_left l.network-iterator)

abbrev pub decreases-loop-network : goal.decreases-loop-network
decreases-loop-network l = length (networks_left l.network-iterator)
