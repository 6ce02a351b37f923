-- Cuts: which bits of a cell's number say in which column it is, and which say in which row.
use Rattle.std.specs.Prelude.{ℕ, ◌+◌, ◌*◌, ◌/◌, ◌%◌, List, [], ◌∷◌}
use Rattle.ipnet_maps.specs.declared.layout.Axis.{Axis}
use Rattle.ipnet_maps.specs.declared.layout.Axis.TheVariants.{Column, Row}

-- A list of cuts has an axis for each bit of a cell's number, from the last bit on.

-- How many bits are column bits. Example: 1 of Column, Row, Row.
abbrev pub columns_in : List Axis → ℕ
columns_in [] = 0
columns_in (Column ∷ cuts) = columns_in cuts + 1
columns_in (Row ∷ cuts) = columns_in cuts

-- How many bits are row bits.
abbrev pub rows_in : List Axis → ℕ
rows_in [] = 0
rows_in (Column ∷ cuts) = rows_in cuts
rows_in (Row ∷ cuts) = rows_in cuts + 1

-- The column of the cell: the number that its column bits make, in order.
-- Example: with the cuts Column, Row, the cells 0, 1, 2 and 3 are in the columns 0, 1, 0 and 1.
abbrev pub column_of : List Axis → ℕ → ℕ
column_of [] cell = 0
column_of (Column ∷ cuts) cell = column_of cuts (cell / 2) * 2 + cell % 2
column_of (Row ∷ cuts) cell = column_of cuts (cell / 2)

-- The row of the cell: the number that its row bits make, in order.
-- Example: with the cuts Column, Row, the cells 0, 1, 2 and 3 are in the rows 0, 0, 1 and 1.
abbrev pub row_of : List Axis → ℕ → ℕ
row_of [] cell = 0
row_of (Column ∷ cuts) cell = row_of cuts (cell / 2)
row_of (Row ∷ cuts) cell = row_of cuts (cell / 2) * 2 + cell % 2

-- The cell in this column and row. Example: with the cuts Column, Row, the cell in column 1 and row 0 is 1.
abbrev pub cell_at : List Axis → ℕ → ℕ → ℕ
cell_at [] column row = 0
cell_at (Column ∷ cuts) column row = cell_at cuts (column / 2) row * 2 + column % 2
cell_at (Row ∷ cuts) column row = cell_at cuts column (row / 2) * 2 + row % 2
