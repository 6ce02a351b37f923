-- Networks that fit into a set of addresses, the rest of the set after one is taken, and the best fit.
-- In the examples, the set is 10.0.0.0/25 and 10.0.0.192/26, and the family is IPv4.
use Rattle.std.specs.Prelude.{◌≡◌, ◌⊎◌, ℕ, ◌≤◌, List}
use Rattle.ipnet_base.specs.Address.{Family, Address}
use Rattle.ipnet_base.specs.Network.{Network, InBlock, IsBefore}
use Rattle.ipnet_base.specs.Blocks.{IsInside, IsMaximal, IsCoveredBy}

-- A network of the family and the prefix length, without host bits, inside the set.
-- Example: 10.0.0.0/26, 10.0.0.64/26 and 10.0.0.192/26 for the length 26.
pub record IsFit (InSet : Address → Type 0) (family : Family) (prefix_len : ℕ) (n : Network) : Type 0 where
  pub inside : IsInside InSet 0 n
  pub of_family : n.family ≡ family
  pub of_length : n.prefix_len ≡ prefix_len

-- Some network of the family and the prefix length lies in the set. Example: a /25 does, and no /24 does.
abbrev pub HasRoom : (Address → Type 0) → Family → ℕ → Type 0
HasRoom InSet family prefix_len = (n : Network) × IsFit InSet family prefix_len n

-- The set without the network's block. Example: without 10.0.0.64/26 it is 10.0.0.0/26 and 10.0.0.192/26.
abbrev pub Without : (Address → Type 0) → Network → Address → Type 0
Without InSet n x = InSet x × ¬ (InBlock n x)

-- The set without the blocks of all the networks. Example: without 10.0.0.0/26 and 10.0.0.64/26 it is 10.0.0.192/26.
abbrev pub WithoutAll : (Address → Type 0) → List Network → Address → Type 0
WithoutAll InSet networks x = InSet x × ¬ (IsCoveredBy networks x)

-- A maximal block of the set that contains networks of the family and the prefix length.
-- Example: both blocks of the set for the length 27, and only 10.0.0.0/25 for the length 25.
pub record IsLargeEnough (InSet : Address → Type 0) (family : Family) (prefix_len : ℕ) (block : Network) : Type 0 where
  pub maximal : IsMaximal InSet 0 block
  pub of_family : block.family ≡ family
  pub enough : block.prefix_len ≤ prefix_len

-- The first network of the prefix length in the smallest maximal block that is large enough. If several are equally
-- small, this block is the one with the lowest number. A smaller block has a longer prefix.
-- Example: 10.0.0.192/27 for the length 27, because the block 10.0.0.192/26 is smaller than 10.0.0.0/25.
pub record IsBestFit (InSet : Address → Type 0) (family : Family) (prefix_len : ℕ) (n : Network) : Type 0 where
  pub fit : IsFit InSet family prefix_len n
  pub block : Network
  pub large_enough : IsLargeEnough InSet family prefix_len block
  pub smallest : (k : Network) → IsLargeEnough InSet family prefix_len k → k.prefix_len ≤ block.prefix_len
  pub lowest : (k : Network) → IsLargeEnough InSet family prefix_len k → k.prefix_len ≡ block.prefix_len
      → (k ≡ block) ⊎ IsBefore block k
  pub at_start : n.number ≡ block.number
