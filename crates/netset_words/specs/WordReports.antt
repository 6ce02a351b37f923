-- The reports of lines that are refused for one of their words.
use Rattle.std.specs.Prelude.{◌≡◌, ℕ, List, codes, Option, None}
use Rattle.netset_words.specs.declared.refused_word.WordCause.{WordCause}
use Rattle.netset_words.specs.declared.refused_word.WordCause.TheVariants.{NulByte, Netmask, Undecided}

-- The words for a cause. Example: `a mask: write ADDRESS/LENGTH`.
abbrev pub word_words : WordCause → List ℕ
word_words NulByte = codes "a NUL byte: is the file UTF-16?"
word_words Netmask = codes "a mask: write ADDRESS/LENGTH"
word_words Undecided = codes "undecided after 1 MiB"

-- The words are all that is said of the text.
abbrev pub ExplainsWord : WordCause → List ℕ → List ℕ → Option (List ℕ) → Type 0
ExplainsWord cause text what why = (what ≡ word_words cause) × (why ≡ None)
