-- The texts of an address as a number: hexadecimal digits, and the eight groups of an IPv6 address in full.
use Rattle.std.specs.Prelude.{ℕ, zero, suc, ◌*◌, ◌/◌, ◌%◌, ◌^◌, List, [], ◌∷◌, ◌++◌, codes}
use Rattle.std.specs.Char.{digit_char}
use Rattle.ipnet_base.specs.Address.{Family, IPv4, IPv6, Address}

-- The hexadecimal digit at this place, in lower case. The lowest digit is at place 0.
-- Example: 0x2fe has the digit `e` at place 0, `f` at place 1, `2` at place 2 and `0` at all higher places.
abbrev pub hex_digit_at : ℕ → ℕ → ℕ
hex_digit_at number place = digit_char (number / 2 ^ (4 * place) % 16)

-- The digits at the lowest `count` places, the highest place first. Example: `02fe` for 4 places of 0x2fe.
abbrev pub hex_digits : ℕ → ℕ → List ℕ
hex_digits zero number = []
hex_digits (suc place) number = hex_digit_at number place ∷ hex_digits place number

-- The number of hexadecimal digits of an address of the family: four bits each.
abbrev pub digit_count : Family → ℕ
digit_count IPv4 = 8
digit_count IPv6 = 32

-- The number of the address in hexadecimal, with all its digits. Example: `0x0a000001` for 10.0.0.1.
abbrev pub hexadecimal_text : Address → List ℕ
hexadecimal_text x = codes "0x" ++ hex_digits (digit_count x.family) x.number

-- The text before the last `rest` groups of an address: ":", or nothing before no group.
abbrev pub separator : ℕ → List ℕ
separator zero = []
separator (suc rest) = codes ":"

-- The lowest `count` groups of 16 bits of the number, each as four digits, joined by ":".
-- Example: `0db8:0001` for two groups of 0xdb8_0001.
abbrev pub full_groups : ℕ → ℕ → List ℕ
full_groups zero number = []
full_groups (suc rest) number = hex_digits 4 (number / 2 ^ (16 * rest)) ++ separator rest ++ full_groups rest number
