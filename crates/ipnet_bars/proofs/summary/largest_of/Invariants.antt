use Rattle.std.proofs.Common.{map, take, option_map}
use Rattle.ipnet.specs.NetworkOf.{ip_network}
use Rattle.ipnet_bars.specs.Summaries.{IsLargest}
use Rattle.ipnet_bars.proofs.summary.largest_of.Given as goal

abbrev pub invariant-loop-network : goal.invariant-loop-network
invariant-loop-network l =
    IsLargest (map ip_network (take l.network-index l.networks)) (option_map ip_network l.largest)
