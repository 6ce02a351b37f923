-- Texts that are made from the front, and how the texts of numbers begin.
use Rattle.std.proofs.Common.{◌≡◌, ℕ, zero, suc, ◌-◌, ◌*◌, ◌/◌, ◌%◌, ◌^◌, ◌<◌, List, [], ◌∷◌, ◌++◌}
use Rattle.std.proofs.Common.{codes, decimal}
use Rattle.std.proofs.Common.{ap, ◌∙◌, append_assoc, arith}
use Rattle.ipnet_info.specs.Digits.{hex_digit_at, hex_digits, separator, full_groups}
use Rattle.ipnet_info.specs.Zones.{ipv4_labels, ipv6_labels}

-- one more piece was appended, and the rest is still to come
pub piece_step : (now text piece rest whole : List ℕ) → now ≡ text ++ piece → text ++ (piece ++ rest) ≡ whole
    → now ++ rest ≡ whole
piece_step now text piece rest whole e h = ap (λ z. z ++ rest) e ∙ append_assoc text piece rest ∙ h

pub digits_step : (place number : ℕ) → 0 < place
    → hex_digits place number ≡ (hex_digit_at number (place - 1) ∷ []) ++ hex_digits (place - 1) number
digits_step zero number pos = absurd (omega (arith, pos))
digits_step (suc place) number pos =
    let less : place ≡ suc place - 1 = omega arith in
    ap (λ k. hex_digit_at number k ∷ hex_digits k number) less

pub groups_step : (rest number : ℕ) → 0 < rest → full_groups rest number
    ≡ hex_digits 4 (number / 2 ^ (16 * (rest - 1))) ++ separator (rest - 1) ++ full_groups (rest - 1) number
groups_step zero number pos = absurd (omega (arith, pos))
groups_step (suc rest) number pos =
    let less : rest ≡ suc rest - 1 = omega arith in
    ap (λ k. hex_digits 4 (number / 2 ^ (16 * k)) ++ separator k ++ full_groups k number) less

pub ipv4_step : (k number : ℕ) → 0 < k → ipv4_labels k number
    ≡ decimal (number / 2 ^ (24 - 8 * (k - 1)) % 256) ++ codes "." ++ ipv4_labels (k - 1) number
ipv4_step zero number pos = absurd (omega (arith, pos))
ipv4_step (suc k) number pos =
    let less : k ≡ suc k - 1 = omega arith in
    ap (λ j. decimal (number / 2 ^ (24 - 8 * j) % 256) ++ codes "." ++ ipv4_labels j number) less

pub ipv6_step : (k number : ℕ) → 0 < k → ipv6_labels k number
    ≡ (hex_digit_at number (31 - (k - 1)) ∷ []) ++ codes "." ++ ipv6_labels (k - 1) number
ipv6_step zero number pos = absurd (omega (arith, pos))
ipv6_step (suc k) number pos =
    let less : k ≡ suc k - 1 = omega arith in
    ap (λ j. (hex_digit_at number (31 - j) ∷ []) ++ codes "." ++ ipv6_labels j number) less
