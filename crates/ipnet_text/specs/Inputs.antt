-- Bytes that a reader returned. `left` has the bytes that the reader still has before, and `left_after` those after it.
-- They are `None` if unknown.
use Rattle.std.specs.Prelude.{ℕ, List, Option}
use Rattle.std.specs.Io.KnownBytes.{Consumes, IsAtEnd}

-- The reader returned this text, and has nothing left.
-- Example: a reader of the bytes `"ab"` that is read to its end returned `"ab"`.
pub record GaveWhole (left left_after : Option (List ℕ)) (text : List ℕ) : Type 0 where
  pub given : Consumes left left_after text
  pub whole : IsAtEnd left_after
