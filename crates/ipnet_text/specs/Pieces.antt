-- A text that is written in pieces.
-- Only private contracts use these.
use Rattle.std.specs.Prelude.{◌≡◌, ℕ, List, ◌++◌, Option}
use Rattle.std.specs.Io.KnownBytes.{Appends}

-- The writer has received the front of the text, and the piece is the rest.
pub record IsInPieces (held held_after : Option (List ℕ)) (piece text : List ℕ) : Type 0 where
  pub done : List ℕ
  pub written : Appends held held_after done
  pub is : done ++ piece ≡ text
