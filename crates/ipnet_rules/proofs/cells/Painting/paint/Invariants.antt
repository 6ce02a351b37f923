-- The cells of the span before this one are painted.
use Rattle.std.proofs.Common.{◌-◌}
use Rattle.ipnet_rules.proofs.PaintingLaws.{IsPainting}
use Rattle.ipnet_rules.proofs.cells.Painting.paint.Given as goal

abbrev pub invariant-loop-cell : goal.invariant-loop-cell
invariant-loop-cell l = IsPainting l.span l.place l.fn.self l.self l.cell

abbrev pub decreases-loop-cell : goal.decreases-loop-cell
decreases-loop-cell l = l.span.end - l.cell
