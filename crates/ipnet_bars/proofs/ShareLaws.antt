-- Shares in tenths of a per cent.
use Rattle.std.proofs.Common.{◌≡◌, ℕ, ◌+◌, ◌-◌, ◌*◌, ◌/◌, ◌%◌, ◌^◌, ◌<◌, ◌≤◌, ap, ◌∙◌, arith}
use Rattle.std.proofs.Math.Nat.{div-lt_iff_lt-mul}
use Rattle.std.proofs.lemmas.Nat.{shr-shr}

-- a part is at most 1000 thousandths
pub at_most_all : (count size : ℕ) → 0 < size → count ≤ size → count * 1000 / size ≤ 1000
at_most_all count size some le =
    let lt : count * 1000 / size < 1001 = (div-lt_iff_lt-mul {k = size} {x = count * 1000} {y = 1001} some).1
    (omega arith) in
    omega arith

-- the product, by the halves of the count
upper_half : (count : ℕ)
    → count / 18446744073709551616 * 1000 + count % 18446744073709551616 * 1000 / 18446744073709551616
    ≡ count * 1000 / 18446744073709551616
upper_half count = omega arith

pub by_halves : (count bits : ℕ) → 64 ≤ bits
    → (count / 18446744073709551616 * 1000 + count % 18446744073709551616 * 1000 / 18446744073709551616)
    / 2 ^ (bits - 64) ≡ count * 1000 / 2 ^ bits
by_halves count bits le =
    let rest : 64 + (bits - 64) ≡ bits = omega arith in
    ap (λ z. z / 2 ^ (bits - 64)) (upper_half count) ∙ shr-shr (count * 1000) 64 (bits - 64)
    ∙ ap (λ z. count * 1000 / 2 ^ z) rest
