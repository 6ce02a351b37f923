-- Texts that are cut if they are long.
use Rattle.std.specs.Prelude.{◌≡◌, ◌<◌, ◌≤◌, ℕ, List, ◌++◌, [], codes, cond, length, nat_lt, take, IsCharBoundary}

-- What a picture shows of the text: its longest front that has at most 100 bytes and does not end inside a character,
-- and two dots if that is not all of it.
-- Example: `Berlin` of `Berlin`; of 99 times `x` and then `ü`, which has two bytes, it is 99 times `x`, and `..`.
pub record IsShortened (text short : List ℕ) : Type 0 where
  pub len : ℕ
  pub few : len ≤ 100
  pub whole : IsCharBoundary text len
  pub longest : (i : ℕ) → len < i → i ≤ 100 → ¬ (IsCharBoundary text i)
  pub spelled : short ≡ take len text ++ cond (nat_lt len (length text)) (codes "..") []
