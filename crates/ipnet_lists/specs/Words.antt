-- The words of a line of a list.
use Rattle.std.specs.Prelude.{ℕ, ◌+◌, ◌-◌, Bool, ◌||◌, ◌==◌, List, length, take, drop}
use Rattle.std.specs.Char.{is_ascii_whitespace}
use Rattle.std.specs.List.{before_first, position_or_len, prefix_len}

-- A blank, ";" (59) or "," (44), which ends a word.
abbrev pub ends_word : ℕ → Bool
ends_word b = is_ascii_whitespace b || (b == 59 || b == 44)

-- The first word of a text that begins with one. Example: `10.0.0.0/8` of `10.0.0.0/8, 10.1.0.0/16`.
abbrev pub leading : List ℕ → List ℕ
leading text = before_first ends_word text

-- The text from the second word on. Example: `10.1.0.0/16 and more` of `10.0.0.0/8, 10.1.0.0/16 and more`.
abbrev pub after_leading : List ℕ → List ℕ
after_leading text =
    let rest = drop (position_or_len ends_word text) text in drop (prefix_len ends_word rest) rest

-- The word that follows. Example: `10.1.0.0/16` of `10.0.0.0/8, 10.1.0.0/16 and more`; nothing of `10.0.0.0/8,`.
abbrev pub second_word : List ℕ → List ℕ
second_word text = leading (after_leading text)

-- The first two words and what is between them. Example: `10.0.0.1- 10.0.0.9` of `10.0.0.1- 10.0.0.9, ours`.
abbrev pub two_words : List ℕ → List ℕ
two_words text =
    let rest = after_leading text in take (length text - length rest + position_or_len ends_word rest) text

-- The text from its first word on. Example: `10.0.0.0/8, ours` of `; 10.0.0.0/8, ours`.
abbrev pub from_word : List ℕ → List ℕ
from_word text = drop (prefix_len ends_word text) text

-- The text up to its first blank, or all of it. Example: `permit` of `permit  10.0.0.0/8`.
abbrev pub leading_word : List ℕ → List ℕ
leading_word text = before_first is_ascii_whitespace text

-- The text after its first word and the blanks that follow. Example: `10.0.0.0/8` of `permit  10.0.0.0/8`.
abbrev pub after_word : List ℕ → List ℕ
after_word text =
    let rest = drop (position_or_len is_ascii_whitespace text) text in drop (prefix_len is_ascii_whitespace rest) rest
