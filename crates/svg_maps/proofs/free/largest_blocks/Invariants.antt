-- The list has the blocks of the lengths so far.
use Rattle.std.proofs.Common.{◌≡◌, ◌≤◌, ◌-◌, map}
use Rattle.ipnet.specs.NetworkOf.{ip_network}
use Rattle.svg_maps.specs.FreeOutlines.{largest_first}
use Rattle.svg_maps.proofs.free.largest_blocks.Given as goal

abbrev pub invariant-loop-len : goal.invariant-loop-len
invariant-loop-len l = record {
  from : l.first ≤ l.len;
  to : l.len ≤ l.end;
  taken : map ip_network l.list.items ≡ largest_first (map ip_network l.blocks) l.first (l.len - l.first);
}
