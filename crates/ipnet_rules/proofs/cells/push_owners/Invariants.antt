-- The list has the owners of the cells of the pieces so far, if the cells are in order.
use Rattle.std.proofs.Common.{take}
use Rattle.ipnet_rules.specs.Cells.{AreInOrder, HasOwnersAdded}
use Rattle.ipnet_rules.proofs.cells.push_owners.Given as goal

abbrev pub invariant-loop-piece : goal.invariant-loop-piece
invariant-loop-piece l = AreInOrder l.cells
    → HasOwnersAdded l.cells (take l.piece-index l.pieces) l.fn.found.items l.found.items
