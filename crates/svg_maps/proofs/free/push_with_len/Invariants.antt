-- After `i` blocks the list has the ones with the length.
use Rattle.std.proofs.Common.{◌≡◌, ◌++◌, map, take}
use Rattle.ipnet.specs.NetworkOf.{ip_network}
use Rattle.svg_maps.specs.FreeOutlines.{with_len}
use Rattle.svg_maps.proofs.free.push_with_len.Given as goal

abbrev pub invariant-loop-block : goal.invariant-loop-block
invariant-loop-block l =
    map ip_network l.list.items
    ≡ map ip_network l.fn.list.items ++ with_len (map ip_network (take l.block-index l.blocks)) l.len
