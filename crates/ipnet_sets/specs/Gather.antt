-- Sets of numbers put together from ranges.
-- `Pushed` uses `IsHeld`. The other definitions are for private contracts.
use Rattle.std.specs.Prelude.{◌≡◌, ℕ, ◌%◌, ◌<◌, ◌≤◌, ◌⊎◌, ◌↔◌, true, List, length, map, get_or, Any}
use Rattle.ipnet_base.specs.Address.{Family, greatest_number}
use Rattle.ipnet_sets.specs.declared.number.NumberRange.{NumberRange}
use Rattle.ipnet_sets.specs.Boundaries.{is_inside, AreBoundaries}

-- The number lies in one of the ranges. Example: 4 lies in one of 3 to 5 and 9 to 9.
abbrev pub IsInSomeRange : {T : Type 0} → (T → ℕ) → List (NumberRange T) → ℕ → Type 0
IsInSomeRange number ranges x = Any (λ r. (number r.first ≤ x) × (x ≤ number r.last)) ranges

-- The number is in the set of these boundaries, or in one of the ranges that wait to be added to it.
-- Example: with the boundaries 3, 6 and the range 1 to 1 that waits, the numbers 1, 3, 4 and 5.
abbrev pub IsHeld : {T : Type 0} → (T → ℕ) → List T → List (NumberRange T) → ℕ → Type 0
IsHeld number boundaries waiting x = (is_inside (map number boundaries) x ≡ true) ⊎ IsInSomeRange number waiting x

-- No range of the set begins after the number. Example: the boundaries 3, 6, 9 begin ranges at 3 and 9, so 9 is such a
-- number, and 8 is not.
abbrev pub BeginsBy : List ℕ → ℕ → Type 0
BeginsBy boundaries n = (k d : ℕ) → k < length boundaries → k % 2 ≡ 0 → get_or boundaries k d ≤ n

-- The old set with the numbers from `first` to `last` added. No range of the new set begins after `first`.
-- Example: the boundaries 3, 6 with the numbers from 5 to 8 are the boundaries 3, 9.
pub record IsJoined (family : Family) (old : List ℕ) (first last : ℕ) (new : List ℕ) : Type 0 where
  pub boundaries : AreBoundaries family new
  pub begins : BeginsBy new first
  pub members : (x : ℕ) → x ≤ greatest_number family
      → (is_inside new x ≡ true) ↔ ((is_inside old x ≡ true) ⊎ ((first ≤ x) × (x ≤ last)))
