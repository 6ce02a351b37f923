-- Pieces: what is true of all pieces of a text, and that their texts are safe.
use Rattle.std.proofs.Common.{◌≡◌, ◌<◌, ◌/◌, ◌%◌, ◌^◌, ℕ, Bool, true, false, List, [], ◌∷◌, ◌++◌, inl, inr}
use Rattle.std.proofs.Common.{map, flat_map, cond, refl, sym, ap₂, ◌∙◌, arith, append-nil}
use Rattle.std.proofs.Common.{lt-ltb, le-ltb}
use Rattle.std.specs.Char.{IsScalar, digit_char, encode_utf8}
use Rattle.std.specs.List.{AllByRecursion}
use Rattle.std.specs.Str.{chars}
use Rattle.std.proofs.lemmas.Bool.{and_parts, cases_lt}
use Rattle.std.proofs.lemmas.Bool.Decides.{nat_tests}
use Rattle.std.proofs.lemmas.List.Concat.{flat_map-append}
use lib.Utf8.{scalar, scalars, scalar_cases}
use Rattle.svg_text.specs.Escapes.{is_plain, is_xml_character, is_referred, Piece, plain, reference, octet}
use Rattle.svg_text.specs.Escapes.{pieces_of, piece_text, escaped}
use Rattle.svg_text.specs.Escapes.{Item, character, number, item_text, IsSafeItem, IsSafeText}
use Rattle.svg_text.proofs.EscapeLaws.{plain_parts}

pub all_append : {A : Type 0} (P : A → Type 0) (xs ys : List A) → AllByRecursion P xs → AllByRecursion P ys
    → AllByRecursion P (xs ++ ys)
all_append P [] ys p q = q
all_append P (x ∷ xs) ys p q = (p.0, all_append P xs ys p.1 q)

-- ---- the pieces of a text

abbrev pub IsPiece : Piece → Type 0
IsPiece (plain c) = is_plain c ≡ true
IsPiece (reference c) = c < 2 ^ 64
IsPiece (octet b) = b < 256

scalar_fits : (c : ℕ) → IsScalar c → c < 1114112
scalar_fits c s = elim (scalar_cases c s) [
  | inl low ↦ omega arith
  | inr high ↦ high.1
]

-- ---- the bytes of a character

are_bytes : (c : ℕ) → IsScalar c → AllByRecursion (λ b. b < 256) (encode_utf8 c)
unfolding encode_utf8
are_bytes c s =
    let top = scalar_fits c s in
    elim (cases_lt c 128) [
      | inl a ↦ rw (lt-ltb c 128 a) (omega arith, tt)
      | inr a ↦ elim (cases_lt c 2048) [
        | inl b ↦ rw (le-ltb c 128 a, lt-ltb c 2048 b) (omega arith, (omega arith, tt))
        | inr b ↦ elim (cases_lt c 65536) [
          | inl d ↦ rw (le-ltb c 128 a, le-ltb c 2048 b, lt-ltb c 65536 d)
              (omega arith, (omega arith, (omega arith, tt)))
          | inr d ↦ rw (le-ltb c 128 a, le-ltb c 2048 b, le-ltb c 65536 d)
              (omega (arith, top), (omega arith, (omega arith, (omega arith, tt))))
        ]
      ]
    ]

octets_are : (bs : List ℕ) → AllByRecursion (λ b. b < 256) bs → AllByRecursion IsPiece (map octet bs)
octets_are [] p = tt
octets_are (b ∷ bs) p = (p.0, octets_are bs p.1)

referred_or : (c : ℕ) (r : Bool) → IsScalar c
    → AllByRecursion IsPiece (cond r (reference c ∷ []) (map octet (encode_utf8 c)))
referred_or c true s = (omega (arith, scalar_fits c s), tt)
referred_or c false s = octets_are (encode_utf8 c) (are_bytes c s)

plain_or : (c : ℕ) (p : Bool) → is_plain c ≡ p → IsScalar c
    → AllByRecursion IsPiece
    (cond p (plain c ∷ []) (cond (is_referred c) (reference c ∷ []) (map octet (encode_utf8 c))))
plain_or c true e s = (e, tt)
plain_or c false e s = referred_or c (is_referred c) s

pub pieces_are : (cs : List ℕ) → scalars cs ≡ true → AllByRecursion IsPiece (flat_map pieces_of cs)
pieces_are [] e = tt
pieces_are (c ∷ cs) e =
    let h = and_parts (scalar c) (scalars cs) e in
    all_append IsPiece (pieces_of c) (flat_map pieces_of cs) (plain_or c (is_plain c) refl h.0) (pieces_are cs h.1)

-- ---- their text is safe

-- A plain piece is of a plain character, and a reference is to a character that a document may have.
abbrev IsWritable : Piece → Type 0
IsWritable (plain c) = is_plain c ≡ true
IsWritable (reference c) = is_xml_character c ≡ true
IsWritable (octet b) = Unit {0}

octets_writable : (bs : List ℕ) → AllByRecursion IsWritable (map octet bs)
octets_writable [] = tt
octets_writable (b ∷ bs) = (tt, octets_writable bs)

referred_in_xml : (c : ℕ) → is_referred c ≡ true → is_xml_character c ≡ true
referred_in_xml c e = grind (arith, nat_tests)

referred_writable : (c : ℕ) (r : Bool) → is_referred c ≡ r
    → AllByRecursion IsWritable (cond r (reference c ∷ []) (map octet (encode_utf8 c)))
referred_writable c true e = (referred_in_xml c e, tt)
referred_writable c false e = octets_writable (encode_utf8 c)

plain_writable : (c : ℕ) (p : Bool) → is_plain c ≡ p → AllByRecursion IsWritable
    (cond p (plain c ∷ []) (cond (is_referred c) (reference c ∷ []) (map octet (encode_utf8 c))))
plain_writable c true e = (e, tt)
plain_writable c false e = referred_writable c (is_referred c) refl

pieces_writable : (cs : List ℕ) → AllByRecursion IsWritable (flat_map pieces_of cs)
pieces_writable [] = tt
pieces_writable (c ∷ cs) =
    all_append IsWritable (pieces_of c) (flat_map pieces_of cs) (plain_writable c (is_plain c) refl)
    (pieces_writable cs)

abbrev items_of : Piece → List Item
items_of (plain c) = character c ∷ []
items_of (reference c) = number c ∷ []
items_of (octet b) =
    character 92 ∷ character 120 ∷ character (digit_char (b / 16 % 16)) ∷ character (digit_char (b % 16)) ∷ []

digit_safe : (d : ℕ) → d < 16 → IsSafeItem (character (digit_char d))
digit_safe d l = elim (cases_lt d 10) [
  | inl a ↦ rw (lt-ltb d 10 a) (omega arith, omega arith, grind (arith, nat_tests))
  | inr a ↦ rw (le-ltb d 10 a) (omega arith, omega arith, grind (arith, nat_tests))
]

items_safe : (p : Piece) → IsWritable p → AllByRecursion IsSafeItem (items_of p)
items_safe (plain c) e = let h = plain_parts c e in ((h.0, h.1, h.2), tt)
items_safe (reference c) e = (e, tt)
items_safe (octet b) e = (
  (omega arith, omega arith, refl),
  (
    (omega arith, omega arith, refl),
    (digit_safe (b / 16 % 16) (omega arith), (digit_safe (b % 16) (omega arith), tt)),
  ),
)

items_text : (p : Piece) → piece_text p ≡ flat_map item_text (items_of p)
items_text (plain c) = refl
items_text (reference c) = sym (append-nil (piece_text (reference c)))
items_text (octet b) = refl

pieces_safe : (ps : List Piece) → AllByRecursion IsWritable ps → IsSafeText (flat_map piece_text ps)
pieces_safe [] all = record { items = []; safe = tt; joined = refl }
pieces_safe (p ∷ ps) all =
    let rest = pieces_safe ps all.1 in
    record {
      items = items_of p ++ rest.items;
      safe = all_append IsSafeItem (items_of p) rest.items (items_safe p all.0) rest.safe;
      joined = ap₂ (λ x y. x ++ y) (items_text p) rest.joined ∙ sym (flat_map-append item_text (items_of p) rest.items);
    }

-- An escaped text is safe.
pub escaped_safe : (bytes : List ℕ) → IsSafeText (escaped bytes)
unfolding escaped
escaped_safe bytes = pieces_safe (flat_map pieces_of (chars bytes)) (pieces_writable (chars bytes))
