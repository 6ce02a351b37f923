-- How a text of UTF-16 begins. Entries are not found in such a text.
use Rattle.std.specs.Prelude.{◌==◌, ◌&&◌, ◌||◌, nat_eq, ℕ, Bool, true, cond, not, List, [], ◌∷◌, length}
use Rattle.std.specs.List.{starts_with}

-- One of the two bytes is NUL, and the other is not.
abbrev pub is_one_null : ℕ → ℕ → Bool
is_one_null byte next = cond (byte == 0) (not (next == 0)) (next == 0)

-- Any two neighbours are NUL and another byte, as in ASCII text in UTF-16.
-- Example: 0, 49, 0, 48 and 49, 0, 48.
abbrev pub alternate : List ℕ → Bool
alternate [] = true
alternate (byte ∷ []) = true
alternate (byte ∷ next ∷ rest) = is_one_null byte next && alternate (next ∷ rest)

-- The bytes begin with the byte order mark of UTF-16, in one order or the other.
abbrev pub has_utf16_mark : List ℕ → Bool
has_utf16_mark bytes = starts_with nat_eq bytes (255 ∷ 254 ∷ []) || starts_with nat_eq bytes (254 ∷ 255 ∷ [])

-- These first bytes of a text show that it is UTF-16: by its byte order mark, or by two ASCII characters.
abbrev pub begins_utf16 : List ℕ → Bool
begins_utf16 front = has_utf16_mark front || ((length front == 4) && alternate front)
