-- Counts of addresses as readers like them: with commas, large ones in networks of length 64, and shares in per cent.
use Rattle.std.specs.Prelude.{ℕ, zero, suc, ◌^◌, ◌/◌, ◌%◌, cond, nat_eq, nat_le, nat_lt, List, ◌++◌, codes, decimal}

-- The last three digits of the number. Example: `007` of 1007.
abbrev pub three_digits : ℕ → List ℕ
three_digits n = decimal (n / 100 % 10) ++ decimal (n / 10 % 10) ++ decimal (n % 10)

-- The number in decimal, with a comma before each three digits from the end, but with at most this many commas.
abbrev pub grouped : (commas n : ℕ) → List ℕ
grouped zero n = decimal n
grouped (suc k) n = cond (nat_lt n 1000) (decimal n) (grouped k (n / 1000) ++ codes "," ++ three_digits n)

-- The number in decimal, with a comma before each three digits from the end. No count of addresses has more commas.
-- Example: `16,777,216`.
unfoldable pub number_text : ℕ → List ℕ
number_text n = grouped 12 n

-- This many addresses, or, if they are more than one network of length 64 has, how many such networks have as many,
-- rounded down. Example: `1 address`, `57 addresses`, and `4,294,967,296 /64s` for 2001:db8::/32.
abbrev pub quantity_text : ℕ → List ℕ
quantity_text n =
    cond (nat_eq n 1) (codes "1 address") (cond (nat_le n (2 ^ 64)) (number_text n ++ codes " addresses")
    (number_text (n / 2 ^ 64) ++ codes " /64s"))
