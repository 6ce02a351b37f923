-- Escapes: any text, such as the name of a file or a comment, as a part of a document in printable ASCII.
use Rattle.std.specs.Prelude.{◌≡◌, ◌≤◌, ◌/◌, ◌%◌, ◌||◌, ◌&&◌, not, ℕ, Bool, nat_le, nat_eq, true, false, if◌then◌else◌}
use Rattle.std.specs.Prelude.{List, [], ◌∷◌, ◌++◌, map, flat_map, chars, codes, decimal, encode_utf8}
use Rattle.std.specs.Char.{digit_char}
use Rattle.std.specs.List.{AllByRecursion}

-- The character is one of those from the first to the last.
abbrev pub is_from_to : ℕ → ℕ → ℕ → Bool
is_from_to first last c = nat_le first c && nat_le c last

-- XML reserves the character: `&`, `<`, `>`, `"` or `'`.
abbrev pub is_reserved : ℕ → Bool
is_reserved c = nat_eq c 38 || nat_eq c 60 || nat_eq c 62 || nat_eq c 34 || nat_eq c 39

-- The character is written as it is: printable ASCII that is not reserved, except the backslash, which is 92.
abbrev pub is_plain : ℕ → Bool
is_plain c = is_from_to 32 126 c && not (is_reserved c) && not (nat_eq c 92)

-- The character turns the direction of writing, or ends a line (Unicode, Bidi_Control, and U+2028 and U+2029).
abbrev pub turns_writing : ℕ → Bool
turns_writing c =
    nat_eq c 0x61c || is_from_to 0x200e 0x200f c || is_from_to 0x2028 0x202e c || is_from_to 0x2066 0x2069 c

-- The character may be in a document (XML 1.0, production 2).
abbrev pub is_xml_character : ℕ → Bool
is_xml_character c =
    nat_eq c 9 || nat_eq c 10 || nat_eq c 13 || is_from_to 0x20 0xd7ff c || is_from_to 0xe000 0xfffd c
    || is_from_to 0x10000 0x10ffff c

-- The character is written as a reference to its number: it is reserved, or from U+00A0 on, if a document may have it
-- and it does not turn the direction of writing.
abbrev pub is_referred : ℕ → Bool
is_referred c = is_reserved c || nat_le 160 c && is_xml_character c && not (turns_writing c)

-- A piece of an escaped text: a character as it is, a reference to one, or one byte of a character.
pub data Piece : Type 0 where
  plain : ℕ → Piece
  reference : ℕ → Piece
  octet : ℕ → Piece

-- The pieces of one character. The bytes of a character are its bytes in UTF-8.
-- Example: `a` is one plain piece, `<` and `ü` are one reference each, and a line feed is one byte.
abbrev pub pieces_of : ℕ → List Piece
pieces_of c =
    if is_plain c then plain c ∷ [] else (if is_referred c then reference c ∷ [] else map octet (encode_utf8 c))

-- The text of a piece. Example: `a`, `&#60;`, `\x0a`.
abbrev pub piece_text : Piece → List ℕ
piece_text (plain c) = c ∷ []
piece_text (reference c) = codes "&#" ++ decimal c ++ codes ";"
piece_text (octet b) = 92 ∷ 120 ∷ digit_char (b / 16 % 16) ∷ digit_char (b % 16) ∷ []

-- The escaped text of characters. Example: `a&#38;b` for `a&b`.
abbrev pub escaped_all : List ℕ → List ℕ
escaped_all cs = flat_map piece_text (flat_map pieces_of cs)

-- The escaped text of a text in UTF-8.
unfoldable pub escaped : List ℕ → List ℕ
escaped bytes = escaped_all (chars bytes)

-- A part of a safe text: a character, or a reference to the number of one.
pub data Item : Type 0 where
  character : ℕ → Item
  number : ℕ → Item

-- The text of a part. Example: `a`, `&#60;`.
abbrev pub item_text : Item → List ℕ
item_text (character c) = c ∷ []
item_text (number n) = codes "&#" ++ decimal n ++ codes ";"

-- A character of a safe text is printable ASCII and not reserved. A reference is to a character that a document may
-- have.
abbrev pub IsSafeItem : Item → Type 0
IsSafeItem (character c) = (32 ≤ c) × (c ≤ 126) × (is_reserved c ≡ false)
IsSafeItem (number n) = is_xml_character n ≡ true

-- The text is printable ASCII. Its only reserved characters are `&`, each in a reference such as `&#60;`.
pub record IsSafeText (text : List ℕ) : Type 0 where
  pub items : List Item
  pub safe : AllByRecursion IsSafeItem items
  pub joined : text ≡ flat_map item_text items
