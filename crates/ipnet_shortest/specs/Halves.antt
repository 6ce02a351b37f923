-- Halves of networks, and the blocks of a list that are in one. Only private contracts cite these.
use Rattle.std.specs.Prelude.{◌≡◌, ◌⊎◌, ℕ, ◌+◌, ◌-◌, ◌<◌, ◌≤◌, List, length, get_or, All, AllPairs}
use Rattle.ipnet_base.specs.Network.{Network, IsSubnetOf, IsTruncated}
use Rattle.ipnet_base.specs.Blocks.{ArePairwiseDisjoint}

-- The half of the network that contains the block.
pub record IsHalfWith (around block half : Network) : Type 0 where
  pub truncated : IsTruncated half
  pub shorter : around.prefix_len + 1 ≡ half.prefix_len
  pub within : IsSubnetOf half around
  pub holds : IsSubnetOf block half

-- The first `count` blocks are in the network, and the next one is not.
pub record AreLeading (blocks : List Network) (network : Network) (count : ℕ) : Type 0 where
  pub within : count ≤ length blocks
  pub leading : (i : ℕ) (d : Network) → i < count → IsSubnetOf (get_or blocks i d) network
  pub next : (d : Network) → count < length blocks → ¬ (IsSubnetOf (get_or blocks count d) network)

-- Blocks in ascending order that share no address, in one network without host bits.
pub record AreBlocksIn (blocks : List Network) (around : Network) : Type 0 where
  pub truncated : IsTruncated around
  pub some : 0 < length blocks
  pub within : All (λ n. IsSubnetOf n around) blocks
  pub disjoint : ArePairwiseDisjoint blocks
  pub ascending : AllPairs (λ n k. n.number ≤ k.number) blocks

-- The network has all addresses of the other network's family.
pub record IsWholeFamily (network whole : Network) : Type 0 where
  pub truncated : IsTruncated whole
  pub same_family : whole.family ≡ network.family
  pub all : whole.prefix_len ≡ 0

-- The first index whose cost is at most `spare`, or at most the last cost.
pub record IsFirstWithin (costs : List ℕ) (spare index : ℕ) : Type 0 where
  pub in_range : index < length costs
  pub most : ℕ
  pub last : get_or costs (length costs - 1) 0 ≤ most
  pub spared : spare ≤ most
  pub one_of : (most ≡ get_or costs (length costs - 1) 0) ⊎ (most ≡ spare)
  pub within : get_or costs index 0 ≤ most
  pub first : (i : ℕ) → i < index → most < get_or costs i 0
