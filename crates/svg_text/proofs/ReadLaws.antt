-- An escaped text reads back: no other text has this escaped text.
use Rattle.std.proofs.Common.{◌≡◌, ◌<◌, ◌/◌, ◌%◌, ◌^◌, ℕ, Bool, true, false, List, [], ◌∷◌, ◌++◌, length, get_or, drop}
use Rattle.std.proofs.Common.{map, flat_map, cond, decimal, codes, refl, sym, ap, ap₂, ◌∙◌, arith, IsUtf8}
use Rattle.std.proofs.Common.{append_assoc, append-nil}
use Rattle.std.specs.Char.{digit_char, digit_value, encode_utf8}
use Rattle.std.specs.List.{AllByRecursion}
use Rattle.std.specs.Str.{chars}
use Rattle.std.specs.Str.Parse.{AllDigits}
use Rattle.std.proofs.lemmas.Fmt.{decimal_is_IsNumeral, decimal_injective}
use Rattle.std.proofs.lemmas.List.Concat.{flat_map-append}
use Rattle.std.proofs.lemmas.Str.{scalars-chars, encodes-chars, digit_value-digit_char}
use lib.Utf8.{encodes}
use Rattle.svg_text.specs.Escapes.{is_reserved, is_plain, is_referred, Piece, plain, reference, octet}
use Rattle.svg_text.specs.Escapes.{pieces_of, piece_text, escaped}
use Rattle.svg_text.proofs.EscapeLaws.{plain_parts}
use Rattle.svg_text.proofs.PieceLaws.{IsPiece, pieces_are}

head_is : (x y : ℕ) (xs ys : List ℕ) → x ∷ xs ≡ y ∷ ys → x ≡ y
head_is x y xs ys e = ap (λ l. get_or l 0 0) e

tail_is : (x y : ℕ) (xs ys : List ℕ) → x ∷ xs ≡ y ∷ ys → xs ≡ ys
tail_is x y xs ys e = ap (λ l. drop 1 l) e

-- ---- a number up to its semicolon, which is 59

digits_read : (xs ys s t : List ℕ) → AllDigits 10 xs → AllDigits 10 ys → xs ++ 59 ∷ s ≡ ys ++ 59 ∷ t
    → (xs ≡ ys) × (s ≡ t)
digits_read [] [] s t p q e = (refl, tail_is 59 59 s t e)
digits_read [] (y ∷ ys) s t p q e =
    let one : 59 ≡ y = head_is 59 y s (ys ++ 59 ∷ t) e in
    absurd (omega (arith, q.0, ap digit_value one))
digits_read (x ∷ xs) [] s t p q e =
    let one : x ≡ 59 = head_is x 59 (xs ++ 59 ∷ s) t e in
    absurd (omega (arith, p.0, ap digit_value one))
digits_read (x ∷ xs) (y ∷ ys) s t p q e =
    let rest = digits_read xs ys s t p.1 q.1 (tail_is x y (xs ++ 59 ∷ s) (ys ++ 59 ∷ t) e) in
    (ap₂ (λ a b. a ∷ b) (head_is x y (xs ++ 59 ∷ s) (ys ++ 59 ∷ t) e) rest.0, rest.1)

number_read : (m n : ℕ) (s t : List ℕ) → m < 2 ^ 64 → n < 2 ^ 64 → decimal m ++ 59 ∷ s ≡ decimal n ++ 59 ∷ t
    → (m ≡ n) × (s ≡ t)
number_read m n s t fits other e =
    let h = digits_read (decimal m) (decimal n) s t (decimal_is_IsNumeral m fits).0.1
    (decimal_is_IsNumeral n other).0.1 e in
    (decimal_injective m n fits other h.0, h.1)

spread : (n : ℕ) (s : List ℕ) → piece_text (reference n) ++ s ≡ 38 ∷ (35 ∷ (decimal n ++ 59 ∷ s))
spread n s =
    append_assoc (codes "&#" ++ decimal n) (codes ";") s ∙ append_assoc (codes "&#") (decimal n) (59 ∷ s)

digit_read : (d e : ℕ) → d < 16 → e < 16 → digit_char d ≡ digit_char e → d ≡ e
digit_read d e l m h =
    sym (digit_value-digit_char d (omega arith)) ∙ ap digit_value h ∙ digit_value-digit_char e (omega arith)

-- ---- a piece begins no other piece

not_reserved : (c : ℕ) → c ≡ 38 → is_reserved c ≡ false → ⊥
not_reserved c one e = omega (arith, ap {B = ℕ} (λ b. cond b 1 0) (ap is_reserved (sym one) ∙ e))

no_reference : (c n : ℕ) (s t : List ℕ) → is_plain c ≡ true → c ∷ s ≡ piece_text (reference n) ++ t → ⊥
no_reference c n s t e same =
    let h = plain_parts c e in
    let one : c ≡ 38 = head_is c 38 s (35 ∷ (decimal n ++ 59 ∷ t)) (same ∙ spread n t) in
    not_reserved c one h.2

piece_read : (p q : Piece) (s t : List ℕ) → IsPiece p → IsPiece q → piece_text p ++ s ≡ piece_text q ++ t
    → (p ≡ q) × (s ≡ t)
piece_read (plain c) (plain d) s t p q e = (ap plain (head_is c d s t e), tail_is c d s t e)
piece_read (plain c) (reference n) s t p q e = absurd (no_reference c n s t p e)
piece_read (plain c) (octet b) s t p q e = absurd ((plain_parts c p).3 (ap (λ l. get_or l 0 0) e))
piece_read (reference n) (plain d) s t p q e = absurd (no_reference d n t s q (sym e))
piece_read (reference m) (reference n) s t p q e =
    let shown : 38 ∷ (35 ∷ (decimal m ++ 59 ∷ s)) ≡ 38 ∷ (35 ∷ (decimal n ++ 59 ∷ t))
    = sym (spread m s) ∙ e ∙ spread n t in
    let h = number_read m n s t p q (ap (λ l. drop 2 l) shown) in
    (ap reference h.0, h.1)
piece_read (reference n) (octet b) s t p q e =
    let one : 38 ≡ 92 = ap (λ l. get_or l 0 0) (sym (spread n s) ∙ e) in
    absurd (omega (arith, one))
piece_read (octet b) (plain d) s t p q e = absurd ((plain_parts d q).3 (ap (λ l. get_or l 0 0) (sym e)))
piece_read (octet b) (reference n) s t p q e =
    let one : 92 ≡ 38 = ap (λ l. get_or l 0 0) (e ∙ spread n t) in
    absurd (omega (arith, one))
piece_read (octet a) (octet b) s t p q e =
    let high : a / 16 % 16 ≡ b / 16 % 16 =
    digit_read (a / 16 % 16) (b / 16 % 16) (omega arith) (omega arith) (ap (λ l. get_or l 2 0) e) in
    let low : a % 16 ≡ b % 16 = digit_read (a % 16) (b % 16) (omega arith) (omega arith) (ap (λ l. get_or l 3 0) e) in
    (ap octet (omega (arith, p, q, high, low)), ap (λ l. drop 4 l) e)

some_text : (p : Piece) (s : List ℕ) → [] ≡ piece_text p ++ s → ⊥
some_text (plain c) s e = omega (arith, ap length e)
some_text (reference n) s e = omega (arith, ap length (e ∙ spread n s))
some_text (octet b) s e = omega (arith, ap length e)

pieces_read : (ps qs : List Piece) → AllByRecursion IsPiece ps → AllByRecursion IsPiece qs
    → flat_map piece_text ps ≡ flat_map piece_text qs → ps ≡ qs
pieces_read [] [] p q e = refl
pieces_read [] (b ∷ qs) p q e = absurd (some_text b (flat_map piece_text qs) e)
pieces_read (a ∷ ps) [] p q e = absurd (some_text a (flat_map piece_text ps) (sym e))
pieces_read (a ∷ ps) (b ∷ qs) p q e =
    let h = piece_read a b (flat_map piece_text ps) (flat_map piece_text qs) p.0 q.0 e in
    ap₂ (λ x y. x ∷ y) h.0 (pieces_read ps qs p.1 q.1 h.1)

-- ---- the bytes of pieces

abbrev piece_bytes : Piece → List ℕ
piece_bytes (plain c) = encode_utf8 c
piece_bytes (reference c) = encode_utf8 c
piece_bytes (octet b) = b ∷ []

octets_bytes : (bs : List ℕ) → flat_map piece_bytes (map octet bs) ≡ bs
octets_bytes [] = refl
octets_bytes (b ∷ bs) = ap (λ z. b ∷ z) (octets_bytes bs)

referred_bytes : (c : ℕ) (r : Bool)
    → flat_map piece_bytes (cond r (reference c ∷ []) (map octet (encode_utf8 c))) ≡ encode_utf8 c
referred_bytes c true = append-nil (encode_utf8 c)
referred_bytes c false = octets_bytes (encode_utf8 c)

plain_bytes : (c : ℕ) (p : Bool)
    → flat_map piece_bytes (cond p (plain c ∷ []) (cond (is_referred c) (reference c ∷ []) (map octet (encode_utf8 c))))
    ≡ encode_utf8 c
plain_bytes c true = append-nil (encode_utf8 c)
plain_bytes c false = referred_bytes c (is_referred c)

all_bytes : (cs : List ℕ) → flat_map piece_bytes (flat_map pieces_of cs) ≡ encodes cs
all_bytes [] = refl
all_bytes (c ∷ cs) =
    flat_map-append piece_bytes (pieces_of c) (flat_map pieces_of cs)
    ∙ ap₂ (λ x y. x ++ y) (plain_bytes c (is_plain c)) (all_bytes cs)

-- Two texts with the same escaped text are the same.
pub escaped_same : (bs ds : List ℕ) → IsUtf8 bs → IsUtf8 ds → escaped bs ≡ escaped ds → bs ≡ ds
unfolding escaped
escaped_same bs ds u v e =
    let pieces = pieces_read (flat_map pieces_of (chars bs)) (flat_map pieces_of (chars ds))
    (pieces_are (chars bs) (scalars-chars bs u)) (pieces_are (chars ds) (scalars-chars ds v)) e in
    sym (encodes-chars bs u) ∙ sym (all_bytes (chars bs)) ∙ ap (flat_map piece_bytes) pieces ∙ all_bytes (chars ds)
    ∙ encodes-chars ds v
