-- The words of a line.
use Rattle.std.specs.Prelude.{ℕ, Bool, not, ◌||◌, ◌==◌, List, [], ◌∷◌, if◌then◌else◌}
use Rattle.std.specs.Char.{is_ascii_graphic}
use Rattle.std.specs.List.{list_any}

-- The signs that cut a line into words: `"`, `#`, `%`, `&`, `'`, `(`, `)`, `,`, `;`, `<`, `=`, `>`, `?`, `[`, a
-- backslash, `]`, a backquote, `{`, `|`, `}`, in this order.
abbrev pub cut_signs : List ℕ
cut_signs =
    34 ∷ 35 ∷ 37 ∷ 38 ∷ 39 ∷ 40 ∷ 41 ∷ 44 ∷ 59 ∷ 60 ∷ 61 ∷ 62 ∷ 63 ∷ 91 ∷ 92 ∷ 93 ∷ 96 ∷ 123 ∷ 124 ∷ 125 ∷ []

-- The byte cuts a line into words: it is one of these signs, or it is not a graphic character of ASCII. Blanks, control
-- characters and the bytes of other characters are not. Example: 44, a comma, cuts; 47, a slash, does not.
abbrev pub cuts : ℕ → Bool
cuts b = not (is_ascii_graphic b) || list_any (λ c. c == b) cut_signs

-- A word of a line, the bytes between it and the word before it, and the bytes between it and the word after it.
-- Example: the second word of `a, b > c` is `b`, with `, ` before it and ` > ` after it.
pub record Word : Type 0 where
  pub before : List ℕ
  pub text : List ℕ
  pub after : List ℕ

-- The bytes before the first of the words.
abbrev pub first_gap : List Word → List ℕ
first_gap [] = []
first_gap (w ∷ words) = w.before

-- A word of one byte at the start of a line with these words after it.
abbrev pub letter_before : ℕ → List Word → List Word
letter_before b words = record { before = []; text = b ∷ []; after = first_gap words } ∷ words

-- The words of a line that begins with this byte, which cuts, by the words of the rest.
abbrev pub after_cut : ℕ → List Word → List Word
after_cut b [] = []
after_cut b (w ∷ words) = record { before = b ∷ w.before; text = w.text; after = w.after } ∷ words

-- The words of a line that begins with this byte, which does not cut, by the bytes before the first word of the rest,
-- that word and the others.
abbrev pub onto_word : ℕ → List ℕ → Word → List Word → List Word
onto_word b [] w words = record { before = []; text = b ∷ w.text; after = w.after } ∷ words
onto_word b (c ∷ before) w words = letter_before b (w ∷ words)

-- The words of a line that begins with this byte, which does not cut, by the words of the rest.
abbrev pub after_byte : ℕ → List Word → List Word
after_byte b [] = letter_before b []
after_byte b (w ∷ words) = onto_word b w.before w words

-- The words of a line: its longest parts without a byte that cuts, in order.
-- Example: `allow 10.0.0.0/9; # ours` has the words `allow`, `10.0.0.0/9` and `ours`.
abbrev pub words_of : List ℕ → List Word
words_of [] = []
words_of (b ∷ line) = if cuts b then after_cut b (words_of line) else after_byte b (words_of line)
