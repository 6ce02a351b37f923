-- Squares: the order of cells in which an address is read like text. Each octet is a square of 16 rows and 16 columns:
-- its first four bits are the row, its last four the column.
use Rattle.std.specs.Prelude.{◌≡◌, ℕ, zero, suc, ◌+◌, ◌-◌, ◌*◌, ◌/◌, ◌^◌, ◌<◌, ◌≤◌, min, max, List, [], ◌∷◌}
use Rattle.std.specs.Prelude.{cond, nat_lt}
use Rattle.ipnet_maps.specs.declared.layout.Axis.{Axis}
use Rattle.ipnet_maps.specs.declared.layout.Axis.TheVariants.{Column, Row}
use Rattle.ipnet_maps.specs.declared.layout.Rectangle.{Rectangle}
use Rattle.ipnet_maps.specs.Cuts.{columns_in, rows_in, column_of, row_of}

-- A map shows some bits of an address: `depth` bits after the first `frame_len`. If it shows some bits of an octet, the
-- first half of them are row bits, and the others column bits. One more is a column bit if their number is odd.
-- Example: in a map of a /16 with 8 bits, the bits 16 to 19 are row bits, and the bits 20 to 23 are column bits.
abbrev pub axis_at : ℕ → ℕ → ℕ → Axis
axis_at frame_len depth bit =
    let first = max frame_len (bit / 8 * 8) in
    let end = min (frame_len + depth) (bit / 8 * 8 + 8) in
    cond (nat_lt (bit - first) ((end - first) / 2)) Row Column

-- The cuts of the bits that are left of a cell's number, if the last `place` bits are left out, and `count` are left.
abbrev pub cuts_from : ℕ → ℕ → ℕ → ℕ → List Axis
cuts_from frame_len depth place zero = []
cuts_from frame_len depth place (suc count) =
    axis_at frame_len depth (frame_len + depth - 1 - place) ∷ cuts_from frame_len depth (place + 1) count

-- The cuts of a map.
-- Example: for a /30 with 2 bits they are Column, Row; for a /16 with 8 bits, four times Column, then four times Row.
abbrev pub square_cuts : ℕ → ℕ → List Axis
square_cuts frame_len depth = cuts_from frame_len depth 0 depth

-- The rectangle of the cells whose number is `block` without its last `low_bits` bits: the place of the block among all
-- blocks of its size, and the sides of a block.
-- Example: in a map of a /16 with 8 bits, block 10 with 4 low bits has the column 0 and the row 10, and is 16 wide.
pub record IsRectangleOf (frame_len depth block low_bits : ℕ) (r : Rectangle) : Type 0 where
  pub width : r.sides.width ≡ 2 ^ columns_in (cuts_from frame_len depth 0 low_bits)
  pub height : r.sides.height ≡ 2 ^ rows_in (cuts_from frame_len depth 0 low_bits)
  pub column : r.place.column ≡ column_of (cuts_from frame_len depth low_bits (depth - low_bits)) block * r.sides.width
  pub row : r.place.row ≡ row_of (cuts_from frame_len depth low_bits (depth - low_bits)) block * r.sides.height

-- The place in this column and row is in the rectangle.
pub record IsInRectangle (r : Rectangle) (column row : ℕ) : Type 0 where
  pub from_left : r.place.column ≤ column
  pub to_right : column < r.place.column + r.sides.width
  pub from_top : r.place.row ≤ row
  pub to_bottom : row < r.place.row + r.sides.height
