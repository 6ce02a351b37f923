-- The lines of the dropped entries so far.
use Rattle.std.proofs.Common.{map, take}
use Rattle.ipnet_text.specs.Pieces.{IsInPieces}
use Rattle.netset_entries.specs.EntryLineOf.{numbered}
use Rattle.netset_entries.specs.Covers.{dropped_of}
use Rattle.netset_entries.specs.Redundancy.{dropped_lines}
use Rattle.netset_entries.proofs.redundant.write_dropped.Given as goal

abbrev pub invariant-loop-item : goal.invariant-loop-item
invariant-loop-item g l = IsInPieces (g.W.Write.contents l.fn.out) (g.W.Write.contents l.out) l.piece.items
    (dropped_lines (map numbered l.lines)
    (map (dropped_of l.kept.ipv4.items l.kept.ipv6.items) (take l.item-index l.covered)))
