-- The table is held against the definition at each of the 256 bytes, by computing.
use Rattle.std.proofs.Common.{◌≡◌, ℕ, ◌+◌, ◌-◌, ◌*◌, ◌<◌, ◌&&◌, List, [], ◌∷◌, Bool, true, false, map, take, drop}
use Rattle.std.proofs.Common.{length, decimal, get_or, nat_lt, IsAscii, refl, sym, ap, ap₂, ◌∙◌, arith}
use Rattle.std.proofs.lemmas.Bool.{ltb-true}
use Rattle.std.proofs.lemmas.List.FromFn.{get_or-map-range_with_len}
use Rattle.std.proofs.lemmas.Str.Ascii.{IsAscii-cons, IsAscii-nil}
use Rattle.std.specs.List.{list_all, range_with_len}
use Rattle.ipnet.specs.declared.print.TheConstants.{DECIMALS}
use Rattle.ipnet.proofs.PrintedDigits.{byte_digits, decimal_digits}
use Rattle.ipnet.proofs.print.decimal_text.Goals as goal

abbrev piece : List ℕ → ℕ → List ℕ
piece digits n = take (length digits) (drop (n * 3 + 3 - length digits) DECIMALS.now)

all_pieces : map (λ n. piece (byte_digits n) n) (range_with_len 0 256) ≡ map byte_digits (range_with_len 0 256)
all_pieces = refl

piece_is : (n : ℕ) → n < 256 → piece (byte_digits n) n ≡ byte_digits n
piece_is n h = sym (get_or-map-range_with_len (λ k. piece (byte_digits k) k) 0 256 n n [] h (omega arith))
    ∙ ap (λ t. get_or t n []) all_pieces ∙ get_or-map-range_with_len byte_digits 0 256 n n [] h (omega arith)

decimal_piece : (n : ℕ) → n < 256 → piece (decimal n) n ≡ decimal n
decimal_piece n h = rw (decimal_digits n h) (piece_is n h)

both : (a b : Bool) → (a && b) ≡ true → (a ≡ true) × (b ≡ true)
both true b e = (refl, e)
both false b e = cc

ascii_from : (bs : List ℕ) → list_all (λ b. nat_lt b 128) bs ≡ true → IsAscii bs
ascii_from [] e = IsAscii-nil
ascii_from (b ∷ bs) e =
    let parts = both _ _ e in
    IsAscii-cons b bs (ltb-true b 128 parts.0) (ascii_from bs parts.1)

IsAscii-table : IsAscii DECIMALS.now
IsAscii-table = ascii_from DECIMALS.now refl

pub range-requires-clause-start_boundary : goal.range-requires-clause-start_boundary
range-requires-clause-start_boundary c =
    λ _. (omega arith, λ a b. absurd (omega (arith, IsAscii-table (c.from.result * 3 + 3 - c.decimal_width.result))))

pub range-requires-clause-end_boundary : goal.range-requires-clause-end_boundary
range-requires-clause-end_boundary c =
    (omega arith, λ a b. absurd (omega (arith, IsAscii-table (c.from.result * 3 + 3))))

pub returns : goal.returns
returns c =
    let at = c.from.result in
    let w = c.decimal_width.result in
    let short = c.decimal_width.ensures.short in
    let width : at * 3 + 3 - (at * 3 + 3 - w) ≡ w = omega arith in
    let read : c.range.result.now ≡ take (at * 3 + 3 - (at * 3 + 3 - w)) (drop (at * 3 + 3 - w) DECIMALS.now)
    = c.range.ensures.value in
    read ∙ ap (λ (n : ℕ). take n (drop (at * 3 + 3 - w) DECIMALS.now)) width
    ∙ ap₂ (λ (a k : ℕ). take k (drop (a * 3 + 3 - k) DECIMALS.now)) c.from.ensures c.decimal_width.ensures.value
    ∙ decimal_piece c.args.n (omega arith)
