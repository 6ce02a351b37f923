-- The cells of the first sets are in the list.
use Rattle.ipnet_maps.proofs.SeveralLaws.{AreCellsTo}
use Rattle.ipnet_maps.proofs.several.shared_class_cells.Given as goal

abbrev pub invariant-loop-place : goal.invariant-loop-place
invariant-loop-place l = AreCellsTo l.sets l.cell_len l.place l.list.items
