-- The list has the owners of the cells so far, if the later cells are known.
use Rattle.std.proofs.Common.{◌-◌, ◌≤◌}
use Rattle.ipnet_rules.specs.Cells.{AreNexts}
use Rattle.ipnet_rules.proofs.CellLaws.{AreAddedTo}
use Rattle.ipnet_rules.proofs.cells.push_span.Given as goal

abbrev pub invariant-loop-cell : goal.invariant-loop-cell
invariant-loop-cell l = (l.span.start ≤ l.cell)
    × (AreNexts l.cells.owners.items l.cells.nexts.items
    → AreAddedTo l.cells.owners.items l.span l.cell l.fn.found.items l.found.items)

abbrev pub decreases-loop-cell : goal.decreases-loop-cell
decreases-loop-cell l = l.span.end - l.cell
