-- A bad line that no network comes before.
use Rattle.std.specs.Prelude.{◌≡◌, ℕ, List, [], All}
use Rattle.ipnet.specs.declared.parser.Grammar.{Grammar}
use Rattle.ipnet.specs.Lines.{IsFirstBadLine}

-- The first line that is not empty is bad, and has this number, counted from 1. No memory is needed to find it.
-- Example: line 2 for an empty line and `x`; none for `10.0.0.0/24` and `x`.
pub record StartsWithBadLine (grammar : Grammar) (lines : List (List ℕ)) (number : ℕ) : Type 0 where
  pub first : IsFirstBadLine grammar lines number
  pub empty : All (λ line. line ≡ []) first.before
