-- The list has the ends of the pieces so far.
use Rattle.std.proofs.Common.{take}
use Rattle.ipnet_rules.specs.Cells.{HasEndsAdded}
use Rattle.ipnet_rules.proofs.cells.push_ends.Given as goal

abbrev pub invariant-loop-piece : goal.invariant-loop-piece
invariant-loop-piece l = HasEndsAdded l.fn.cuts.items (take l.piece-index l.pieces) l.cuts.items
