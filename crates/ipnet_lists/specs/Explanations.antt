-- The words for why a text is refused, as contracts see them.
use Rattle.std.specs.Prelude.{ℕ, List, Option, Some, None}
use Rattle.std.specs.Borrow.{Bor}

-- The words that are lent, if there are any.
abbrev pub words_of : Option (Bor (List ℕ)) → Option (List ℕ)
words_of None = None
words_of (Some words) = Some words.now
