-- The part of a set that is in a block. `IsInPart` is for all, `IsPartBetween` is for private contracts.
use Rattle.std.specs.Prelude.{◌≡◌, ℕ, ◌+◌, ◌≤◌, ◌↔◌, true, List, length}
use Rattle.ipnet_base.specs.Address.{Family, Address, greatest_number}
use Rattle.ipnet_base.specs.Network.{Network, InBlock}
use Rattle.ipnet_sets.specs.Boundaries.{is_inside, AreBoundaries}

-- The address is in the block, and in the set.
-- Example: of the set 10.0.0.0 to 10.0.0.9, the part in 10.0.0.8/29 is 10.0.0.8 and 10.0.0.9.
pub record IsInPart (InSet : Address → Type 0) (n : Network) (x : Address) : Type 0 where
  pub in_block : InBlock n x
  pub in_set : InSet x

-- `part` has the numbers of the set that are from `first` to `last`, and at most two boundaries more than the set.
-- Example: of the boundaries 3, 6, 9, from 7 to 12: the boundaries 9, 13.
pub record IsPartBetween (family : Family) (boundaries : List ℕ) (first last : ℕ) (part : List ℕ) : Type 0 where
  pub are : AreBoundaries family part
  pub members : (x : ℕ) → x ≤ greatest_number family → (is_inside part x ≡ true)
      ↔ ((is_inside boundaries x ≡ true) × (first ≤ x) × (x ≤ last))
  pub no_more : length part ≤ length boundaries + 2
