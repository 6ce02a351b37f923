-- The count of the networks before this one.
use Rattle.std.proofs.Common.{◌≡◌, ◌≤◌, map, take}
use Rattle.ipnet.specs.NetworkOf.{ip_network}
use Rattle.netset_entries.specs.Lengths.{count_with}
use Rattle.netset_entries.specs.Spans.{family_of}
use Rattle.netset_entries.proofs.lengths.count_of.Given as goal

abbrev pub invariant-loop-network : goal.invariant-loop-network
invariant-loop-network l = record {
  within : l.count ≤ l.network-index;
  counted : l.count ≡ count_with (family_of l.family) l.len (map ip_network (take l.network-index l.networks));
}
