-- Arithmetic on the numbers of addresses, as the traits of `ipext` do it: sums and differences that saturate, and
-- operations on each bit.
use Rattle.std.specs.Prelude.{◌≡◌, ℕ, ◌+◌, ◌-◌, ◌/◌, ◌%◌, ◌^◌, ◌<◌, min, max}
use Rattle.ipnet_base.specs.Address.{Family, width, greatest_number}

-- The sum; at most the family's last number. Example: 255.255.255.254 plus 5 is 255.255.255.255.
abbrev pub saturating_sum : Family → ℕ → ℕ → ℕ
saturating_sum family a b = min (a + b) (greatest_number family)

-- The difference; 0 if `b` is greater. Example: 192.168.1.100 minus 192.168.1.5 is 95; 0.0.0.0 minus 192.168.1.5 is 0.
abbrev pub saturating_difference : ℕ → ℕ → ℕ
saturating_difference a b = a - b

-- Bit `i` of a number, 0 or 1; bit 0 is the least significant. Example: bit 1 of 6 = 0b110 is 1, and bit 0 is 0.
abbrev pub bit : ℕ → ℕ → ℕ
bit number i = number / 2 ^ i % 2

-- The bitwise AND of two numbers: each bit is the smaller of the two bits.
-- Example: fd00:1234::1 AND ffff:: is fd00::.
pub record IsBitwiseAnd (family : Family) (a b number : ℕ) : Type 0 where
  pub fits : number < 2 ^ width family
  pub bits : (i : ℕ) → i < width family → bit number i ≡ min (bit a i) (bit b i)

-- The bitwise OR of two numbers: each bit is the greater of the two bits.
-- Example: 10.0.0.0 OR 0.0.0.255 is 10.0.0.255.
pub record IsBitwiseOr (family : Family) (a b number : ℕ) : Type 0 where
  pub fits : number < 2 ^ width family
  pub bits : (i : ℕ) → i < width family → bit number i ≡ max (bit a i) (bit b i)
