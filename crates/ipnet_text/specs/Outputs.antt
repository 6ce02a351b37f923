-- Texts that a writer received. `held` has the bytes that the writer has received before, and `held_after` those after
-- it. They are `None` if unknown.
use Rattle.std.specs.Prelude.{ℕ, List, Option}
use Rattle.std.specs.Io.{StartsWith}
use Rattle.std.specs.Io.KnownBytes.{Appends}

-- There is a text with this property, and all of it was written.
-- Example: of the texts that begin with `"a"`, a writer that received `"ab"`.
pub record IsWritten (IsText : List ℕ → Type 0) (held held_after : Option (List ℕ)) : Type 0 where
  pub text : List ℕ
  pub right : IsText text
  pub written : Appends held held_after text

-- There is a text with this property, and a front of it was written, perhaps all of it.
-- Example: of the texts `"ab"` and `"cd"`, a writer that received `"c"`.
pub record IsFrontWritten (IsText : List ℕ → Type 0) (held held_after : Option (List ℕ)) : Type 0 where
  pub text : List ℕ
  pub right : IsText text
  pub front : List ℕ
  pub begins : StartsWith text front
  pub written : Appends held held_after front
