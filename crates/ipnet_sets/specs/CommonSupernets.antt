-- The smallest network that contains two networks.
use Rattle.std.specs.Prelude.{◌≡◌, ℕ, ◌-◌, ◌/◌, ◌^◌, ◌≤◌, ◌↔◌}
use Rattle.ipnet_base.specs.Address.{Address, width}
use Rattle.ipnet_base.specs.Network.{Network, IsNetwork, IsSubnetOf, IsTruncated}

-- The smallest network that contains both, without host bits.
-- Example: 10.0.0.0/14 for 10.1.0.0/16 and 10.2.0.0/16.
pub record IsCommonSupernet (n k s : Network) : Type 0 where
  pub network : IsNetwork s
  pub truncated : IsTruncated s
  pub first : IsSubnetOf n s
  pub second : IsSubnetOf k s
  pub smallest : (o : Network) → IsNetwork o → IsSubnetOf n o → IsSubnetOf k o → IsSubnetOf s o

-- The addresses are of one family, and share exactly this many of their first bits.
-- Example: 10.1.0.0 and 10.2.0.0 share 14.
pub record AreSharedBits (x y : Address) (bits : ℕ) : Type 0 where
  pub same_family : x.family ≡ y.family
  pub fits : bits ≤ width x.family
  pub shared : (l : ℕ) → l ≤ width x.family
      → (x.number / 2 ^ (width x.family - l) ≡ y.number / 2 ^ (width x.family - l)) ↔ (l ≤ bits)
