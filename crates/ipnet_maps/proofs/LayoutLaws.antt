-- Places and sides fit their words.
use Rattle.std.proofs.Common.{◌≡◌, ℕ, ◌+◌, ◌-◌, ◌*◌, ◌/◌, ◌^◌, ◌<◌, ◌≤◌, sym, ap, ◌∙◌, arith}
use Rattle.std.proofs.lemmas.Nat.{pow-add, mul-le}
use Rattle.std.proofs.Math.Nat.{pow-le-pow_right}

pow_more : (k : ℕ) → 2 ^ (k + 1) ≡ 2 ^ k * 2
pow_more k = pow-add 2 k 1

-- a power of two whose exponent is one more
twice : (k m : ℕ) → k ≡ m + 1 → 2 ^ k ≡ 2 ^ m * 2
twice k m e = ap (λ z. 2 ^ z) e ∙ pow_more m

pub half_block : (d out block : ℕ) → out < d → block < 2 ^ (d - out) → block / 2 < 2 ^ (d - (out + 1))
half_block d out block less h =
    let e = twice (d - out) (d - (out + 1)) (omega (arith, less)) in
    omega (arith, h, e)

pub one_more_bit : (d out n bit : ℕ) → out < d → n < 2 ^ (d - (out + 1)) → bit < 2 → n * 2 + bit < 2 ^ (d - out)
one_more_bit d out n bit less h small =
    let e = twice (d - out) (d - (out + 1)) (omega (arith, less)) in
    omega (arith, h, small, e)

pub no_more_bit : (d out n : ℕ) → out < d → n < 2 ^ (d - (out + 1)) → n < 2 ^ (d - out)
no_more_bit d out n less h =
    let e = twice (d - out) (d - (out + 1)) (omega (arith, less)) in
    omega (arith, h, e)

pub doubled_side : (count side : ℕ) → 0 < count → side ≤ 2 ^ (count - 1) → side * 2 ≤ 2 ^ count
doubled_side count side some h =
    let e = twice count (count - 1) (omega (arith, some)) in
    omega (arith, h, e)

pub same_side : (count side : ℕ) → 0 < count → side ≤ 2 ^ (count - 1) → side ≤ 2 ^ count
same_side count side some h =
    let e = twice count (count - 1) (omega (arith, some)) in
    omega (arith, h, e)

-- at most 2^20, which leaves room
pub side_fits : (count side : ℕ) → count ≤ 20 → side ≤ 2 ^ count → side ≤ 1048576
side_fits count side few h =
    let top : 2 ^ count ≤ 2 ^ 20 = pow-le-pow_right {n = 2} (omega arith) few in
    omega (arith, h, top)

pub start_fits : (d low q side : ℕ) → d ≤ 20 → low ≤ d → q < 2 ^ (d - low) → side ≤ 2 ^ low → q * side ≤ 1048576
start_fits d low q side few le h wide =
    let product : q * side ≤ 2 ^ (d - low) * 2 ^ low
    = mul-le q side (2 ^ (d - low)) (2 ^ low) (omega (arith, h)) wide in
    let whole : (d - low) + low ≡ d = omega (arith, le) in
    let power : 2 ^ d ≡ 2 ^ (d - low) * 2 ^ low = ap (λ z. 2 ^ z) (sym whole) ∙ pow-add 2 (d - low) low in
    side_fits d (q * side) few (omega (arith, product, power))
