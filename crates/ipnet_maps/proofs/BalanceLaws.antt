-- The sides of rectangles differ little: a test of the maps of eight frames, which hold for all frames.
use Rattle.std.proofs.Common.{◌≡◌, ℕ, zero, suc, ◌+◌, ◌-◌, ◌*◌, ◌/◌, ◌%◌, ◌<◌, ◌≤◌, ◌⊎◌, inl, inr, min, max, ◌∷◌}
use Rattle.std.proofs.Common.{Bool, true, cond, nat_lt, leb, eqb, not, ◌&&◌, ◌||◌, refl, sym, ap, ap₂, ◌∙◌, arith}
use Rattle.std.proofs.lemmas.Bool.{cases_lt, or_cases, and_parts, not-true, eqb-true, eqb-false, leb-true}
use Rattle.std.proofs.lemmas.Bool.{agree_below, agree_below_at}
use Rattle.ipnet_maps.specs.declared.layout.Axis.TheVariants.{Column, Row}
use Rattle.ipnet_maps.specs.Cuts.{columns_in, rows_in}
use Rattle.ipnet_maps.specs.Squares.{axis_at, cuts_from, square_cuts}

-- ---- a frame that is 8 bits longer has the same cuts

axis_shift : (f d bit : ℕ) → axis_at (f + 8) d (bit + 8) ≡ axis_at f d bit
axis_shift f d bit =
    let octet : (bit + 8) / 8 * 8 ≡ bit / 8 * 8 + 8 = omega arith in
    let place : bit + 8 - max (f + 8) ((bit + 8) / 8 * 8) ≡ bit - max f (bit / 8 * 8) = omega (arith, octet) in
    let size : min (f + 8 + d) ((bit + 8) / 8 * 8 + 8) - max (f + 8) ((bit + 8) / 8 * 8)
    ≡ min (f + d) (bit / 8 * 8 + 8) - max f (bit / 8 * 8) = omega (arith, octet) in
    ap₂ (λ u v. cond (nat_lt u (v / 2)) Row Column) place size

cuts_shift : (f d left count : ℕ) → left + count ≤ d → cuts_from (f + 8) d left count ≡ cuts_from f d left count
cuts_shift f d left zero h = refl
cuts_shift f d left (suc count) h =
    let bit : f + 8 + d - 1 - left ≡ f + d - 1 - left + 8 = omega (arith, h) in
    ap₂ (λ a rest. a ∷ rest)
    (ap (λ z. axis_at (f + 8) d z) bit ∙ axis_shift f d (f + d - 1 - left))
    (cuts_shift f d (left + 1) count (omega (arith, h)))

-- ---- eight frames

abbrev test_low : ℕ → ℕ → ℕ → Bool
test_low f d low =
    leb (columns_in (cuts_from f d 0 low)) (rows_in (cuts_from f d 0 low) + 4)
    && leb (rows_in (cuts_from f d 0 low)) (columns_in (cuts_from f d 0 low) + 4)

abbrev test_sides : ℕ → ℕ → Bool
test_sides f d =
    eqb (columns_in (cuts_from f d 0 d)) (rows_in (cuts_from f d 0 d))
    || eqb (columns_in (cuts_from f d 0 d)) (rows_in (cuts_from f d 0 d) + 1)

abbrev test_depth : ℕ → ℕ → Bool
test_depth f d =
    not (eqb (d % 2) (f % 2)) || (agree_below (test_low f d) (λ low. true) (d + 1) && test_sides f d)

passed : (f : ℕ) → f < 8 → agree_below (test_depth f) (λ d. true) 21 ≡ true
passed zero h = refl
passed (suc zero) h = refl
passed (suc (suc zero)) h = refl
passed (suc (suc (suc zero))) h = refl
passed (suc (suc (suc (suc zero)))) h = refl
passed (suc (suc (suc (suc (suc zero))))) h = refl
passed (suc (suc (suc (suc (suc (suc zero)))))) h = refl
passed (suc (suc (suc (suc (suc (suc (suc zero))))))) h = refl
passed (suc (suc (suc (suc (suc (suc (suc (suc f)))))))) h = absurd (omega arith)

small_depth : (f d : ℕ) → f < 8 → d ≤ 20 → d % 2 ≡ f % 2
    → (agree_below (test_low f d) (λ low. true) (d + 1) ≡ true) × (test_sides f d ≡ true)
small_depth f d small le same =
    let one : test_depth f d ≡ true
    = agree_below_at (test_depth f) (λ z. true) 21 d (passed f small) (omega (arith, le)) in
    elim (or_cases (not (eqb (d % 2) (f % 2))) (agree_below (test_low f d) (λ low. true) (d + 1) && test_sides f d)
    one) [
      | inl odd ↦ absurd (eqb-false (d % 2) (f % 2) (not-true (eqb (d % 2) (f % 2)) odd) same)
      | inr both ↦ and_parts (agree_below (test_low f d) (λ low. true) (d + 1)) (test_sides f d) both
    ]

-- ---- all frames

record Representative (f : ℕ) : Type 0 where
  frame : ℕ
  small : frame < 8
  parity : frame % 2 ≡ f % 2
  same : (d left count : ℕ) → left + count ≤ d → cuts_from f d left count ≡ cuts_from frame d left count

representative : (n f : ℕ) → f < n * 8 → Representative f
representative zero f h = absurd (omega arith)
representative (suc n) f h = elim (cases_lt f 8) [
  | inl lt ↦ record { frame = f; small = lt; parity = refl; same = λ d left count le. refl }
  | inr ge ↦
      let g = f - 8 in
      let e : g + 8 ≡ f = omega (arith, ge) in
      let r = representative n g (omega (arith, h, ge)) in
      record {
        frame = r.frame;
        small = r.small;
        parity = omega (arith, r.parity, e);
        same = λ d left count le.
            ap (λ z. cuts_from z d left count) (sym e) ∙ cuts_shift g d left count le ∙ r.same d left count le;
      }
]

pub map_sides : (f d : ℕ) → d ≤ 20 → d % 2 ≡ f % 2
    → (columns_in (square_cuts f d) ≡ rows_in (square_cuts f d))
    ⊎ (columns_in (square_cuts f d) ≡ rows_in (square_cuts f d) + 1)
map_sides f d le same =
    let r = representative (f + 1) f (omega arith) in
    let parity : d % 2 ≡ r.frame % 2 = same ∙ sym r.parity in
    let t = (small_depth r.frame d r.small le parity).1 in
    let cuts : cuts_from f d 0 d ≡ cuts_from r.frame d 0 d = r.same d 0 d (omega arith) in
    let c = columns_in (cuts_from r.frame d 0 d) in
    let n = rows_in (cuts_from r.frame d 0 d) in
    let across = ap columns_in cuts in
    let down = ap rows_in cuts in
    elim (or_cases (eqb c n) (eqb c (n + 1)) t) [
      | inl e ↦ inl (across ∙ eqb-true c n e ∙ sym down)
      | inr e ↦ inr (across ∙ eqb-true c (n + 1) e ∙ ap (λ z. z + 1) (sym down))
    ]

pub block_sides : (f d low : ℕ) → d ≤ 20 → d % 2 ≡ f % 2 → low ≤ d
    → (columns_in (cuts_from f d 0 low) ≤ rows_in (cuts_from f d 0 low) + 4)
    × (rows_in (cuts_from f d 0 low) ≤ columns_in (cuts_from f d 0 low) + 4)
block_sides f d low le same short =
    let r = representative (f + 1) f (omega arith) in
    let parity : d % 2 ≡ r.frame % 2 = same ∙ sym r.parity in
    let t = (small_depth r.frame d r.small le parity).0 in
    let cuts : cuts_from f d 0 low ≡ cuts_from r.frame d 0 low = r.same d 0 low (omega (arith, short)) in
    let c = columns_in (cuts_from r.frame d 0 low) in
    let n = rows_in (cuts_from r.frame d 0 low) in
    let one : test_low r.frame d low ≡ true
    = agree_below_at (test_low r.frame d) (λ z. true) (d + 1) low t (omega (arith, short)) in
    let parts = and_parts (leb c (n + 4)) (leb n (c + 4)) one in
    let across : columns_in (cuts_from f d 0 low) ≡ c = ap columns_in cuts in
    let down : rows_in (cuts_from f d 0 low) ≡ n = ap rows_in cuts in
    let wide : c ≤ n + 4 = leb-true c (n + 4) parts.0 in
    let high : n ≤ c + 4 = leb-true n (c + 4) parts.1 in
    (omega (arith, across, down, wide), omega (arith, across, down, high))
