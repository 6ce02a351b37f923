-- The buffer that a caller passes to a function of `include/ipnet.h`, before (`old`) and after (`new`) the call.
use Rattle.std.specs.Prelude.{◌≡◌, ℕ, ◌<◌, ◌≤◌, List, ◌++◌, length, drop}

-- The buffer begins with the answer, and its other bytes are unchanged; `count` is the length of the answer.
-- Example: with the answer 1, 2 the buffer 9, 9, 9 becomes 1, 2, 9, and the count is 2.
pub record IsWritten (answer old new : List ℕ) (count : ℕ) : Type 0 where
  pub room : length answer ≤ length old
  pub bytes : new ≡ answer ++ drop (length answer) old
  pub counted : count ≡ length answer

-- The answer is longer than the buffer, which is unchanged; `count` is the length that the answer needs.
-- Example: with the answer 1, 2 the buffer 9 stays, and the count is 2.
pub record IsTooLong (answer old new : List ℕ) (count : ℕ) : Type 0 where
  pub short : length old < length answer
  pub kept : new ≡ old
  pub counted : count ≡ length answer
