-- The private steps of writing a listing in pieces.
-- Only private contracts use these.
use Rattle.std.specs.Prelude.{◌≡◌, ℕ, List, ◌++◌, Option}
use Rattle.ipnet_text.specs.Pieces.{IsInPieces}

-- The bytes that the writer has received, then the piece, are a front of the text, and `rest` is the rest of the text.
pub record IsWrittenUpTo (held held_after : Option (List ℕ)) (piece rest text : List ℕ) : Type 0 where
  pub front : List ℕ
  pub pieces : IsInPieces held held_after piece front
  pub split : front ++ rest ≡ text
