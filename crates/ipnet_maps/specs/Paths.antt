-- Paths: the text of rectangles of one colour, as the path data of SVG. All moves are relative, and a cell is one unit.
use Rattle.std.specs.Prelude.{ℕ, ◌+◌, ◌-◌, ◌^◌, ◌<◌, ◌==◌, min, cond, nat_lt, Bool, List, [], ◌∷◌, ◌++◌, codes}
use Rattle.std.specs.Prelude.{decimal}
use Rattle.ipnet_maps.specs.declared.layout.Place.{Place}
use Rattle.ipnet_maps.specs.declared.layout.Sides.{Sides}
use Rattle.ipnet_maps.specs.declared.layout.Rectangle.{Rectangle}

-- The place of the first cell of a map, at which a path begins.
abbrev pub corner : Place
corner = record { column = 0; row = 0 }

-- The distance from one number to another: with a minus sign if it goes back, and with this text before it if not.
-- Example: from 3 to 1 it is `-2`, and from 1 to 3 it is `2`, after the text.
abbrev pub distance_text : List ℕ → ℕ → ℕ → List ℕ
distance_text before from to =
    cond (nat_lt to from) (codes "-" ++ decimal (from - to)) (before ++ decimal (to - from))

-- The move from one place to another. A minus sign or a blank separates its two numbers.
-- Example: from column 3 and row 4 to column 4 and row 1 it is `m1-3`, and the move back is `m-1 3`.
abbrev pub move_text : Place → Place → List ℕ
move_text from to = codes "m" ++ distance_text [] from.column to.column ++ distance_text (codes " ") from.row to.row

-- The outline of a rectangle: a line along each of three sides, and the end, which closes it and returns to its first
-- corner. Example: `h2v1h-2z` for 2 wide and 1 high.
abbrev pub outline_text : Sides → List ℕ
outline_text s =
    codes "h" ++ decimal s.width ++ codes "v" ++ decimal s.height ++ codes "h-" ++ decimal s.width ++ codes "z"

-- The rectangle, drawn from this place.
-- Example: from column 3 and row 4, the rectangle 2 wide and 1 high at column 4 and row 1 is `m1-3h2v1h-2z`.
abbrev pub rectangle_text : Place → Rectangle → List ℕ
rectangle_text from r = move_text from r.place ++ outline_text r.sides

-- The rectangles, one after the other, each drawn from the place of the one before.
abbrev pub path_of : Place → List Rectangle → List ℕ
path_of from [] = []
path_of from (r ∷ rest) = rectangle_text from r ++ path_of r.place rest

-- Whether the rectangle is a row: it is one cell high.
abbrev pub is_row : Rectangle → Bool
is_row r = r.sides.height == 1

-- Whether the rectangle is tall: it is more than one cell high.
abbrev pub is_tall : Rectangle → Bool
is_tall r = nat_lt 1 r.sides.height

-- The place behind the last cell of a row, at which its line ends. No column is above 2^32 - 1.
-- Example: of the row 2 wide at column 4 and row 1 it is column 6 and row 1.
abbrev pub end_of : Rectangle → Place
end_of r = record { column = min (r.place.column + r.sides.width) 4294967295; row = r.place.row }

-- The row as a line, drawn from this place. A line takes about half the bytes of an outline.
-- Example: from column 3 and row 4, the row 2 wide at column 4 and row 1 is `m1-3h2`.
abbrev pub line_text : Place → Rectangle → List ℕ
line_text from r = move_text from r.place ++ codes "h" ++ decimal r.sides.width

-- The rows, one after the other, each drawn from the end of the one before.
abbrev pub lines_of : Place → List Rectangle → List ℕ
lines_of from [] = []
lines_of from (r ∷ rest) = line_text from r ++ lines_of (end_of r) rest

-- The rows as lines that are one cell wide, each through the middle of its row. All moves after the first are relative,
-- so one move to the middle of a row is enough. Without rows the text is empty.
-- Example: of the row 2 wide at column 4 and row 1, and the row 1 wide at column 9 and row 1, it is
-- `m0 .5m4 1h2m3 0h1`.
abbrev pub rows_path : List Rectangle → List ℕ
rows_path [] = []
rows_path (r ∷ rest) = codes "m0 .5" ++ lines_of corner (r ∷ rest)

-- The first move of a path of lines, if the text before it is empty. Only a private contract uses this.
abbrev pub first_move : List ℕ → List ℕ
first_move [] = codes "m0 .5"
first_move (b ∷ before) = []

-- The numbers of the rectangle fit in words of 32 bits, as they do in every value of `Rectangle`.
pub record FitsWords (r : Rectangle) : Type 0 where
  pub column : r.place.column < 2 ^ 32
  pub row : r.place.row < 2 ^ 32
  pub width : r.sides.width < 2 ^ 32
  pub height : r.sides.height < 2 ^ 32
