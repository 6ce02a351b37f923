-- Escaped texts: one piece after the other, and texts that are their own escaped texts.
use Rattle.std.proofs.Common.{◌≡◌, ◌<◌, ◌≤◌, ◌+◌, ◌%◌, ◌^◌, ℕ, Bool, true, false, not, ◌&&◌, List, [], ◌∷◌, ◌++◌}
use Rattle.std.proofs.Common.{flat_map, get_or, decimal, refl, sym, ap, ◌∙◌, arith, suc, zero}
use Rattle.std.proofs.lemmas.Bool.{and_parts, and_from, not-true}
use Rattle.std.proofs.lemmas.Bool.Decides.{nat_tests}
use Rattle.std.proofs.lemmas.List.Concat.{flat_map-append}
use Rattle.std.proofs.lemmas.Str.{chars-IsAscii}
use Rattle.std.proofs.lemmas.Fmt.{decimal_by_steps}
use Rattle.svg_text.specs.Escapes.{is_from_to, is_reserved, is_plain, plain, pieces_of, piece_text}
use Rattle.svg_text.specs.Escapes.{escaped_all, escaped}

escaped_all-append : (xs ys : List ℕ) → escaped_all (xs ++ ys) ≡ escaped_all xs ++ escaped_all ys
escaped_all-append xs ys =
    ap (flat_map piece_text) (flat_map-append pieces_of xs ys)
    ∙ flat_map-append piece_text (flat_map pieces_of xs) (flat_map pieces_of ys)

-- Each byte of the text is a plain character.
abbrev pub are_plain : List ℕ → Bool
are_plain [] = true
are_plain (b ∷ bs) = is_plain b && are_plain bs

pub plain_parts : (c : ℕ) → is_plain c ≡ true
    → (32 ≤ c) × (c ≤ 126) × (is_reserved c ≡ false) × (c ≡ 92 → ⊥)
plain_parts c e =
    let outer = and_parts (is_from_to 32 126 c && not (is_reserved c)) _ e in
    let inner = and_parts (is_from_to 32 126 c) (not (is_reserved c)) outer.0 in
    let low : 32 ≤ c = grind (arith, nat_tests, inner.0) in
    let high : c ≤ 126 = grind (arith, nat_tests, inner.0) in
    (low, high, not-true _ inner.1, λ is. grind (arith, nat_tests, outer.1, is))

pub are_plain-append : (cs bs : List ℕ) → are_plain cs ≡ true → are_plain bs ≡ true → are_plain (cs ++ bs) ≡ true
are_plain-append [] bs e f = f
are_plain-append (c ∷ cs) bs e f =
    let h = and_parts (is_plain c) (are_plain cs) e in
    and_from (is_plain c) _ h.0 (are_plain-append cs bs h.1 f)

plain_digit : (n : ℕ) → n < 10 → is_plain (48 + n) ≡ true
plain_digit n l = grind (arith, nat_tests)

pub plain_decimal : (n : ℕ) → n < 2 ^ 64 → are_plain (decimal n) ≡ true
plain_decimal = decimal_by_steps (λ n ds. are_plain ds ≡ true)
    (λ n l. and_from (is_plain (48 + n)) true (plain_digit n l) refl)
    (λ n ds l h. are_plain-append ds ((48 + n % 10) ∷ []) h
    (and_from (is_plain (48 + n % 10)) true (plain_digit (n % 10) (omega arith)) refl))

plain_below : (bs : List ℕ) → are_plain bs ≡ true → (i : ℕ) → get_or bs i 0 < 128
plain_below [] e i = omega arith
plain_below (b ∷ bs) e zero = let p = plain_parts b (and_parts (is_plain b) (are_plain bs) e).0 in omega (arith, p.1)
plain_below (b ∷ bs) e (suc i) = plain_below bs (and_parts (is_plain b) (are_plain bs) e).1 i

pub plain_pieces : (c : ℕ) → is_plain c ≡ true → pieces_of c ≡ plain c ∷ []
plain_pieces c e = rw e refl

plain_all : (bs : List ℕ) → are_plain bs ≡ true → escaped_all bs ≡ bs
plain_all [] e = refl
plain_all (b ∷ bs) e =
    let h = and_parts (is_plain b) (are_plain bs) e in
    escaped_all-append (b ∷ []) bs ∙ rw (h.0, plain_all bs h.1) refl

-- A text of plain characters is its own escaped text.
escaped_plain : (bs : List ℕ) → are_plain bs ≡ true → escaped bs ≡ bs
unfolding escaped
escaped_plain bs e = ap escaped_all (chars-IsAscii bs (plain_below bs e)) ∙ plain_all bs e

-- An appended text of plain characters is the escaped text of itself.
pub appended_plain : (bs old new : List ℕ) → are_plain bs ≡ true → new ≡ old ++ bs → new ≡ old ++ escaped bs
appended_plain bs old new e is = is ∙ ap (λ z. old ++ z) (sym (escaped_plain bs e))
