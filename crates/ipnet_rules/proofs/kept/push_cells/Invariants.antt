-- The cells so far are added.
use Rattle.ipnet_rules.proofs.KeptLaws.{AreAddedTo}
use Rattle.ipnet_rules.proofs.kept.push_cells.Given as goal

abbrev pub invariant-loop-cell : goal.invariant-loop-cell
invariant-loop-cell l = AreAddedTo l.family l.owners l.cell l.fn.list.items l.list.items
