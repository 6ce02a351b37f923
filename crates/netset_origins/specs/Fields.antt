-- The fields of a line.
use Rattle.std.specs.Prelude.{◌≡◌, ◌⊎◌, ◌==◌, ℕ, List, ◌++◌, codes}
use Rattle.std.specs.List.{before_first, after_first}
use Rattle.ipnet.specs.Numerals.{IsDecimal}
use Rattle.ipnet.specs.declared.parser.Grammar.TheVariants.{Strict}

-- The text before the first comma (44), or the whole text. Example: `AS64496` of `AS64496,192.0.2.0/24,24`.
abbrev pub first_field : List ℕ → List ℕ
first_field text = before_first (λ b. b == 44) text

-- The text after the first comma. It is empty if there is none. Example: `192.0.2.0/24,24` of
-- `AS64496,192.0.2.0/24,24`.
abbrev pub after_field : List ℕ → List ℕ
after_field text = after_first (λ b. b == 44) text

-- The text is a number of at most 32 bits, in decimal without leading zeros. Example: `64496`, but not `064496`.
abbrev pub IsNumber : List ℕ → ℕ → Type 0
IsNumber text n = IsDecimal Strict 10 4294967295 text n

-- The text is an AS number, with the letters `AS` before it or without. Example: `64496` and `AS64496` are 64496.
abbrev pub IsAsn : List ℕ → ℕ → Type 0
IsAsn text n = IsNumber text n ⊎ ((digits : List ℕ) × (text ≡ codes "AS" ++ digits) × IsNumber digits n)
