-- The lines of the spans so far.
use Rattle.std.proofs.Common.{◌++◌, map, take}
use Rattle.ipnet_text.specs.Pieces.{IsInPieces}
use Rattle.netset_entries.specs.EntryLineOf.{numbered}
use Rattle.netset_entries.specs.Redundancy.{witness_lines}
use Rattle.netset_entries.proofs.redundant.put_witness.Given as goal

abbrev pub invariant-loop-span : goal.invariant-loop-span
invariant-loop-span g l = IsInPieces (g.W.Write.contents l.fn.out) (g.W.Write.contents l.out) l.piece.items
    (l.fn.piece.items ++ witness_lines (map numbered l.lines) (map (λ s. s.place) (take l.span-index l.spans)))
