-- Parts: how many addresses of a set are in a block, and the levels of the subnets of a network.
use Rattle.std.specs.Prelude.{ℕ, ◌^◌, List, Option, Some, None}
use Rattle.std.specs.List.{AllZip}
use Rattle.ipnet_base.specs.Address.{Address}
use Rattle.ipnet_base.specs.Network.{Network, InBlock, host_bits}
use Rattle.ipnet.specs.NetworkParts.{AreSubnetsOfLength}
use Rattle.ipnet_sets.specs.Members.{IsCountOf}
use Rattle.ipnet_sets.specs.Parts.{IsInPart}
use Rattle.ipnet_bars.specs.declared.share.Level.{Level}
use Rattle.ipnet_bars.specs.Shares.{IsShare}

-- The block has no address of the set. Example: 10.0.0.16/28 has none of 10.0.0.0 to 10.0.0.9.
abbrev pub HasNone : (Address → Type 0) → Network → Type 0
HasNone InSet n = (x : Address) → InBlock n x → ¬ (InSet x)

-- The block has an address of the set. Example: 10.0.0.8/29 has 10.0.0.9 of 10.0.0.0 to 10.0.0.9.
abbrev pub HasSome : (Address → Type 0) → Network → Type 0
HasSome InSet n = (x : Address) × IsInPart InSet n x

-- All addresses of the block are in the set. Example: all of 10.0.0.8/31 are in 10.0.0.0 to 10.0.0.9.
abbrev pub HasAll : (Address → Type 0) → Network → Type 0
HasAll InSet n = (x : Address) → InBlock n x → InSet x

-- The number of addresses of a block. Example: 10.0.0.8/29 has 2^3 = 8.
abbrev pub block_size : Network → ℕ
block_size n = 2 ^ host_bits n

-- The number that a count of addresses says: `None` is 2^128, which no word of 128 bits holds.
abbrev pub counted : Option ℕ → ℕ
counted None = 2 ^ 128
counted (Some count) = count

-- The level of the block: the share of its addresses that are in the set.
-- Example: 10.0.0.8/29 has 2 of its 8 addresses in 10.0.0.0 to 10.0.0.9, so its level is `BelowThird`.
pub record IsLevelOf (InSet : Address → Type 0) (n : Network) (level : Level) : Type 0 where
  pub count : ℕ
  pub is_count : IsCountOf (IsInPart InSet n) count
  pub share : IsShare level count (block_size n)

-- The list has the level of each subnet with this prefix length, in order.
-- Example: 10.0.0.0/28 and 29 have the levels `Whole` and `BelowThird` in 10.0.0.0 to 10.0.0.9.
pub record AreLevelsOf (InSet : Address → Type 0) (n : Network) (prefix_len : ℕ) (levels : List Level) : Type 0 where
  pub cells : List Network
  pub subnets : AreSubnetsOfLength n prefix_len cells
  pub each : AllZip (IsLevelOf InSet) cells levels
