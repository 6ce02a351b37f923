-- The numbers in the text of an address or network, with their values (RFC 4632, section 3.1; RFC 4291, section 2.2).
use Rattle.std.specs.Prelude.{◌≡◌, ℕ, ◌≤◌, List, length, slice_index}
use Rattle.std.specs.Str.Parse.{IsNumeral, digits_value}
use Rattle.ipnet.specs.declared.parser.Grammar.{Grammar}
use Rattle.ipnet.specs.declared.parser.Grammar.TheVariants.{Strict}

-- The text is a decimal number `n`: one to `most` digits, with a value of at most `greatest`. Leading zeros count as
-- digits; in the strict grammar only `0` itself starts with a zero (byte 48).
pub record IsDecimal (grammar : Grammar) (most greatest : ℕ) (text : List ℕ) (n : ℕ) : Type 0 where
  pub digits : IsNumeral 10 text
  pub value : digits_value 10 text ≡ n
  pub short : length text ≤ most
  pub small : n ≤ greatest
  pub plain : grammar ≡ Strict → slice_index text 0 ≡ 48 → length text ≡ 1

-- The text is an octet of an IPv4 address: at most three digits and at most 255.
-- Example: `7` and `255` are octets in both grammars, `007` only in the legacy grammar, `0007` and `256` in neither.
abbrev pub IsOctet : Grammar → List ℕ → ℕ → Type 0
IsOctet grammar text n = IsDecimal grammar 3 255 text n

-- The text is a group of an IPv6 address: one to four hexadecimal digits of either case. Both grammars allow leading
-- zeros.
-- Example: `0102` is the group 258.
pub record IsGroup (text : List ℕ) (n : ℕ) : Type 0 where
  pub digits : IsNumeral 16 text
  pub value : digits_value 16 text ≡ n
  pub short : length text ≤ 4
