-- The smallest network around a set of addresses.
use Rattle.std.specs.Prelude.{◌≡◌, ℕ, List, true}
use Rattle.ipnet_base.specs.Address.{Family, Address, IsAddress}
use Rattle.ipnet_base.specs.Network.{Network, IsNetwork, InBlock, IsSubnetOf, IsTruncated}
use Rattle.ipnet_sets.specs.Boundaries.{is_inside}

-- The smallest network that contains all addresses of the set. Example: 10.20.0.0/21 for 10.20.3.0 to 10.20.4.9.
pub record IsSmallestAround (InSet : Address → Type 0) (n : Network) : Type 0 where
  pub network : IsNetwork n
  pub truncated : IsTruncated n
  pub holds : (x : Address) → InSet x → InBlock n x
  pub smallest : (k : Network) → IsNetwork k → ((x : Address) → InSet x → InBlock k x) → IsSubnetOf n k

-- The address is of the family, and its number is inside the boundaries. Only private contracts use this.
pub record IsWithin (f : Family) (boundaries : List ℕ) (x : Address) : Type 0 where
  pub of_family : x.family ≡ f
  pub fits : IsAddress x
  pub inside : is_inside boundaries x.number ≡ true
