-- Cells and their places are one to one, and the cells of a block are one rectangle.
use Rattle.std.proofs.Common.{◌≡◌, ℕ, suc, ◌+◌, ◌-◌, ◌*◌, ◌/◌, ◌%◌, ◌^◌, ◌<◌, ◌≤◌, ◌↔◌, List, [], ◌∷◌, ◌++◌, length}
use Rattle.std.proofs.Common.{sym, ap, ◌∙◌, subst, arith, add-one}
use Rattle.std.proofs.lemmas.Nat.{pow_pos, pow-add, shr-shr, div-add-mod', div-mul-add, mod-mul-add, mod_below}
use Rattle.ipnet_maps.specs.declared.layout.Axis.{Axis}
use Rattle.ipnet_maps.specs.declared.layout.Axis.TheVariants.{Column, Row}
use Rattle.ipnet_maps.specs.Cuts.{columns_in, rows_in, column_of, row_of, cell_at}

-- ---- numbers

pow_more : (k : ℕ) → 2 ^ (k + 1) ≡ 2 ^ k * 2
pow_more k = pow-add 2 k 1

pow_next : (k : ℕ) → 2 ^ suc k ≡ 2 ^ k * 2
pow_next k = ap (λ z. 2 ^ z) (sym (add-one k)) ∙ pow_more k

half_below : (c k : ℕ) → c < 2 ^ (k + 1) → c / 2 < 2 ^ k
half_below c k h = omega (arith, h, pow_more k)

half_fits : (c k : ℕ) → c < 2 ^ suc k → c / 2 < 2 ^ k
half_fits c k h = omega (arith, h, pow_next k)

twice_below : (a b k : ℕ) → a < 2 ^ k → b < 2 → a * 2 + b < 2 ^ (k + 1)
twice_below a b k h l = omega (arith, h, l, pow_more k)

-- a quotient, by its bounds
quotient_bounds : (n m q : ℕ) → 0 < m → n / m ≡ q → (q * m ≤ n) × (n < q * m + m)
quotient_bounds n m q some e =
    let whole = div-add-mod' n m in
    let rest = mod_below n m some in
    let same : n / m * m ≡ q * m = ap (λ z. z * m) e in
    (omega (arith, whole, same), omega (arith, whole, same, rest))

quotient_from : (n m q : ℕ) → q * m ≤ n → n < q * m + m → n / m ≡ q
quotient_from n m q low high =
    let r = n - q * m in
    let e : n ≡ q * m + r = omega (arith, low) in
    let less : r < m = omega (arith, low, high) in
    ap (λ z. z / m) e ∙ div-mul-add q m r less

half_quotient : (n k : ℕ) → n / 2 / 2 ^ k ≡ n / 2 ^ (k + 1)
half_quotient n k =
    let e : n / 2 ^ 1 / 2 ^ k ≡ n / 2 ^ (1 + k) = shr-shr n 1 k in
    let turned : 1 + k ≡ k + 1 = omega arith in
    e ∙ ap (λ z. n / 2 ^ z) turned

half_next : (n k : ℕ) → n / 2 / 2 ^ k ≡ n / 2 ^ suc k
half_next n k = half_quotient n k ∙ ap (λ z. n / 2 ^ z) (add-one k)

doubled_half : (a b : ℕ) → b < 2 → (a * 2 + b) / 2 ≡ a
doubled_half a b h = div-mul-add a 2 b h

doubled_rest : (a b : ℕ) → b < 2 → (a * 2 + b) % 2 ≡ b
doubled_rest a b h = mod-mul-add a 2 b h

bit_below : (n : ℕ) → n % 2 < 2
bit_below n = mod_below n 2 (omega arith)

-- ---- cells and places

pub column_fits : (cuts : List Axis) (cell : ℕ) → cell < 2 ^ length cuts → column_of cuts cell < 2 ^ columns_in cuts
column_fits [] cell h = omega arith
column_fits (Column ∷ cuts) cell h =
    twice_below (column_of cuts (cell / 2)) (cell % 2) (columns_in cuts)
    (column_fits cuts (cell / 2) (half_fits cell (length cuts) h)) (bit_below cell)
column_fits (Row ∷ cuts) cell h = column_fits cuts (cell / 2) (half_fits cell (length cuts) h)

pub row_fits : (cuts : List Axis) (cell : ℕ) → cell < 2 ^ length cuts → row_of cuts cell < 2 ^ rows_in cuts
row_fits [] cell h = omega arith
row_fits (Row ∷ cuts) cell h =
    twice_below (row_of cuts (cell / 2)) (cell % 2) (rows_in cuts)
    (row_fits cuts (cell / 2) (half_fits cell (length cuts) h)) (bit_below cell)
row_fits (Column ∷ cuts) cell h = row_fits cuts (cell / 2) (half_fits cell (length cuts) h)

-- the cell at the place of a cell is this cell
pub cell_of_place : (cuts : List Axis) (cell : ℕ) → cell < 2 ^ length cuts
    → cell_at cuts (column_of cuts cell) (row_of cuts cell) ≡ cell
cell_of_place [] cell h = omega (arith, h)
cell_of_place (Column ∷ cuts) cell h =
    let column = column_of cuts (cell / 2) in
    let row = row_of cuts (cell / 2) in
    let b = bit_below cell in
    let half = half_fits cell (length cuts) h in
    ap (λ z. cell_at cuts z row * 2 + (column * 2 + cell % 2) % 2) (doubled_half column (cell % 2) b)
    ∙ ap (λ z. cell_at cuts column row * 2 + z) (doubled_rest column (cell % 2) b)
    ∙ ap (λ z. z * 2 + cell % 2) (cell_of_place cuts (cell / 2) half)
    ∙ div-add-mod' cell 2
cell_of_place (Row ∷ cuts) cell h =
    let column = column_of cuts (cell / 2) in
    let row = row_of cuts (cell / 2) in
    let b = bit_below cell in
    let half = half_fits cell (length cuts) h in
    ap (λ z. cell_at cuts column z * 2 + (row * 2 + cell % 2) % 2) (doubled_half row (cell % 2) b)
    ∙ ap (λ z. cell_at cuts column row * 2 + z) (doubled_rest row (cell % 2) b)
    ∙ ap (λ z. z * 2 + cell % 2) (cell_of_place cuts (cell / 2) half)
    ∙ div-add-mod' cell 2

-- the place of the cell at a place is this place
pub cell_fits : (cuts : List Axis) (column row : ℕ) → cell_at cuts column row < 2 ^ length cuts
cell_fits [] column row = omega arith
cell_fits (Column ∷ cuts) column row =
    let h = twice_below (cell_at cuts (column / 2) row) (column % 2) (length cuts) (cell_fits cuts (column / 2) row)
    (bit_below column) in
    subst (λ z. cell_at cuts (column / 2) row * 2 + column % 2 < 2 ^ z) (add-one (length cuts)) h
cell_fits (Row ∷ cuts) column row =
    let h = twice_below (cell_at cuts column (row / 2)) (row % 2) (length cuts) (cell_fits cuts column (row / 2))
    (bit_below row) in
    subst (λ z. cell_at cuts column (row / 2) * 2 + row % 2 < 2 ^ z) (add-one (length cuts)) h

pub column_of_cell : (cuts : List Axis) (column row : ℕ) → column < 2 ^ columns_in cuts
    → column_of cuts (cell_at cuts column row) ≡ column
column_of_cell [] column row h = omega (arith, h)
column_of_cell (Column ∷ cuts) column row h =
    let cell = cell_at cuts (column / 2) row in
    let b = bit_below column in
    ap (λ z. column_of cuts z * 2 + (cell * 2 + column % 2) % 2) (doubled_half cell (column % 2) b)
    ∙ ap (λ z. column_of cuts cell * 2 + z) (doubled_rest cell (column % 2) b)
    ∙ ap (λ z. z * 2 + column % 2)
    (column_of_cell cuts (column / 2) row (half_below column (columns_in cuts) h))
    ∙ div-add-mod' column 2
column_of_cell (Row ∷ cuts) column row h =
    let cell = cell_at cuts column (row / 2) in
    ap (λ z. column_of cuts z) (doubled_half cell (row % 2) (bit_below row))
    ∙ column_of_cell cuts column (row / 2) h

pub row_of_cell : (cuts : List Axis) (column row : ℕ) → row < 2 ^ rows_in cuts
    → row_of cuts (cell_at cuts column row) ≡ row
row_of_cell [] column row h = omega (arith, h)
row_of_cell (Row ∷ cuts) column row h =
    let cell = cell_at cuts column (row / 2) in
    let b = bit_below row in
    ap (λ z. row_of cuts z * 2 + (cell * 2 + row % 2) % 2) (doubled_half cell (row % 2) b)
    ∙ ap (λ z. row_of cuts cell * 2 + z) (doubled_rest cell (row % 2) b)
    ∙ ap (λ z. z * 2 + row % 2)
    (row_of_cell cuts column (row / 2) (half_below row (rows_in cuts) h))
    ∙ div-add-mod' row 2
row_of_cell (Column ∷ cuts) column row h =
    let cell = cell_at cuts (column / 2) row in
    ap (λ z. row_of cuts z) (doubled_half cell (column % 2) (bit_below column))
    ∙ row_of_cell cuts (column / 2) row h

-- ---- blocks: one more bit halves the rectangle across the axis that the cuts name

column_of_block : (back front : List Axis) (cell : ℕ)
    → column_of (back ++ front) cell / 2 ^ columns_in back ≡ column_of front (cell / 2 ^ length back)
column_of_block [] front cell =
    let one : column_of front cell / 1 ≡ column_of front cell = omega arith in
    let same : cell / 1 ≡ cell = omega arith in
    one ∙ ap (λ z. column_of front z) (sym same)
column_of_block (Column ∷ back) front cell =
    let column = column_of (back ++ front) (cell / 2) in
    sym (half_quotient (column * 2 + cell % 2) (columns_in back))
    ∙ ap (λ z. z / 2 ^ columns_in back) (doubled_half column (cell % 2) (bit_below cell))
    ∙ column_of_block back front (cell / 2)
    ∙ ap (λ z. column_of front z) (half_next cell (length back))
column_of_block (Row ∷ back) front cell =
    column_of_block back front (cell / 2) ∙ ap (λ z. column_of front z) (half_next cell (length back))

row_of_block : (back front : List Axis) (cell : ℕ)
    → row_of (back ++ front) cell / 2 ^ rows_in back ≡ row_of front (cell / 2 ^ length back)
row_of_block [] front cell =
    let one : row_of front cell / 1 ≡ row_of front cell = omega arith in
    let same : cell / 1 ≡ cell = omega arith in
    one ∙ ap (λ z. row_of front z) (sym same)
row_of_block (Row ∷ back) front cell =
    let row = row_of (back ++ front) (cell / 2) in
    sym (half_quotient (row * 2 + cell % 2) (rows_in back))
    ∙ ap (λ z. z / 2 ^ rows_in back) (doubled_half row (cell % 2) (bit_below cell))
    ∙ row_of_block back front (cell / 2)
    ∙ ap (λ z. row_of front z) (half_next cell (length back))
row_of_block (Column ∷ back) front cell =
    row_of_block back front (cell / 2) ∙ ap (λ z. row_of front z) (half_next cell (length back))

-- the cells of a block are exactly the cells between the sides of its rectangle
pub record IsBetween (x y width height column row : ℕ) : Type 0 where
  pub from_left : x ≤ column
  pub to_right : column < x + width
  pub from_top : y ≤ row
  pub to_bottom : row < y + height

pub block_is_rectangle : (back front : List Axis) (block cell : ℕ) → block < 2 ^ length front
    → cell / 2 ^ length back < 2 ^ length front
    → (cell / 2 ^ length back ≡ block)
    ↔ IsBetween (column_of front block * 2 ^ columns_in back) (row_of front block * 2 ^ rows_in back)
    (2 ^ columns_in back) (2 ^ rows_in back) (column_of (back ++ front) cell) (row_of (back ++ front) cell)
block_is_rectangle back front block cell fits inside = (to, from)
  where
    column : ℕ
    column = column_of (back ++ front) cell

    row : ℕ
    row = row_of (back ++ front) cell

    to : cell / 2 ^ length back ≡ block
        → IsBetween (column_of front block * 2 ^ columns_in back) (row_of front block * 2 ^ rows_in back)
        (2 ^ columns_in back) (2 ^ rows_in back) column row
    to e =
        let across = quotient_bounds column (2 ^ columns_in back) (column_of front block) (pow_pos (columns_in back))
        (column_of_block back front cell ∙ ap (λ z. column_of front z) e) in
        let down = quotient_bounds row (2 ^ rows_in back) (row_of front block) (pow_pos (rows_in back))
        (row_of_block back front cell ∙ ap (λ z. row_of front z) e) in
        record { from_left = across.0; to_right = across.1; from_top = down.0; to_bottom = down.1 }

    from : IsBetween (column_of front block * 2 ^ columns_in back) (row_of front block * 2 ^ rows_in back)
        (2 ^ columns_in back) (2 ^ rows_in back) column row → cell / 2 ^ length back ≡ block
    from r =
        let outer = cell / 2 ^ length back in
        let across : column_of front outer ≡ column_of front block
        = sym (column_of_block back front cell)
        ∙ quotient_from column (2 ^ columns_in back) (column_of front block) r.from_left r.to_right in
        let down : row_of front outer ≡ row_of front block
        = sym (row_of_block back front cell)
        ∙ quotient_from row (2 ^ rows_in back) (row_of front block) r.from_top r.to_bottom in
        sym (cell_of_place front outer inside)
        ∙ ap (λ z. cell_at front z (row_of front outer)) across
        ∙ ap (λ z. cell_at front (column_of front block) z) down
        ∙ cell_of_place front block fits
