use Rattle.std.proofs.Common.{◌≡◌, ◌≤◌, map, take}
use Rattle.ipnet.specs.NetworkOf.{ip_network}
use Rattle.ipnet_bars.specs.Summaries.{count_with_len}
use Rattle.ipnet_bars.proofs.summary.count_of.Given as goal

abbrev pub invariant-loop-network : goal.invariant-loop-network
invariant-loop-network l = record {
  within : l.count ≤ l.network-index;
  counted : l.count ≡ count_with_len (map ip_network (take l.network-index l.networks)) l.len;
}
