-- The start of an input, up to a byte order mark if it has one.
-- Only private contracts use these.
use Rattle.std.specs.Prelude.{◌≡◌, ℕ, Bool, false, List, [], ◌++◌, Option}
use Rattle.std.specs.Io.KnownBytes.{Consumes, IsAtEnd}
use Rattle.ipnet_text.specs.declared.window.Window.{Window}
use Rattle.ipnet_text.specs.Window.{held}
use Rattle.ipnet_lists.specs.Lists.{after_mark}

-- The start of an input was read, and the window has it without a byte order mark. If `more` is false, that is the
-- whole input.
pub record IsPastMark (more : Bool) (left left_after : Option (List ℕ)) (window : Window) : Type 0 where
  pub mark : List ℕ
  pub read : Consumes left left_after (mark ++ held window)
  pub past : (rest : List ℕ) → (more ≡ false → rest ≡ []) → after_mark (mark ++ (held window ++ rest))
      ≡ held window ++ rest
  pub end : more ≡ false → IsAtEnd left_after
