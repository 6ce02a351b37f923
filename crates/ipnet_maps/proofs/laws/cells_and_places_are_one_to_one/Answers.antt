use Rattle.ipnet_maps.proofs.CutLaws.{column_fits, row_fits, cell_of_place, cell_fits, column_of_cell, row_of_cell}
use Rattle.ipnet_maps.proofs.laws.cells_and_places_are_one_to_one.Goals as goal

pub returns-clause-cell : goal.returns-clause-cell
returns-clause-cell c = λ cuts cell h. (column_fits cuts cell h, row_fits cuts cell h, cell_of_place cuts cell h)

pub returns-clause-place : goal.returns-clause-place
returns-clause-place c = λ cuts column row wide high.
    (cell_fits cuts column row, column_of_cell cuts column row wide, row_of_cell cuts column row high)
