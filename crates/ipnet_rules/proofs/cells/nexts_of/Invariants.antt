-- Each cell from this one on has its next cell.
use Rattle.ipnet_rules.proofs.CellLaws.{AreNextsFrom}
use Rattle.ipnet_rules.proofs.cells.nexts_of.Given as goal

abbrev pub invariant-loop-cell : goal.invariant-loop-cell
invariant-loop-cell l = AreNextsFrom l.cell l.owners l.nexts.items

abbrev pub decreases-loop-cell : goal.decreases-loop-cell
decreases-loop-cell l = l.cell
