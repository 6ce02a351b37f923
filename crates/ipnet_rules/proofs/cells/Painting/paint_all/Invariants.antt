-- The cells of the pieces so far are painted.
use Rattle.std.proofs.Common.{take}
use Rattle.ipnet_rules.specs.Cells.{AreSkips, ArePainted, IsCutIn}
use Rattle.ipnet_rules.proofs.cells.Painting.paint_all.Given as goal

abbrev pub invariant-loop-piece : goal.invariant-loop-piece
invariant-loop-piece l = AreSkips l.self
    × ArePainted (IsCutIn l.cuts (take l.piece-index l.pieces)) l.place l.fn.self l.self
