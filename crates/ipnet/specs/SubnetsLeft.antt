-- A walk as contracts see it: the range that is left, and the networks that the walk still yields.
use Rattle.std.specs.Prelude.{◌≡◌, ℕ, ◌-◌, ◌*◌, ◌<◌, ◌≤◌, ◌↔◌, List, length, Option, ⊤, IfSome, IfNone, IsNone}
use Rattle.std.specs.Iterator.{MakesProgress, item_count}
use Rattle.ipnet_base.specs.Address.{Address, IPv4, IPv6, IsBetween, width}
use Rattle.ipnet_base.specs.Network.{Network, IsGreatestOf}
use Rattle.ipnet_base.specs.Blocks.{AreMaximalBlocks, ArePairwiseDisjoint, IsShortestCover}
use Rattle.ipnet_base.specs.Subnets.{SubnetRange, IsAdvancedPast, IsLargestSubnetAt}
use Rattle.ipnet_base.proofs.WalkLaws.{blocks_exist}
use Rattle.ipnet.specs.declared.subnets.IpSubnets.{IpSubnets}
use Rattle.ipnet.specs.declared.subnets.IpSubnets.TheVariants as Ip
use Rattle.ipnet.specs.declared.subnets.ipv4_subnets.Ipv4Subnets.{Ipv4Subnets}
use Rattle.ipnet.specs.declared.subnets.ipv6_subnets.Ipv6Subnets.{Ipv6Subnets}

-- The IPv4 range from `start` to `end`, to be tiled by networks of at least this prefix length.
abbrev pub ipv4_range_of : (start end min_prefix_len : ℕ) → SubnetRange
ipv4_range_of start end min_prefix_len =
    record { family = IPv4; start = start; end = end; min_prefix_len = min_prefix_len }

-- The IPv6 range from `start` to `end`, to be tiled by networks of at least this prefix length.
abbrev pub ipv6_range_of : (start end min_prefix_len : ℕ) → SubnetRange
ipv6_range_of start end min_prefix_len =
    record { family = IPv6; start = start; end = end; min_prefix_len = min_prefix_len }

-- The address lies in the range.
-- Example: 10.0.0.1 lies in 10.0.0.0 to 10.0.0.239.
abbrev pub IsInRange : SubnetRange → Address → Type 0
IsInRange range = IsBetween range.family range.start range.end

-- The networks that a walk over the range yields: the maximal blocks of its addresses, ascending.
-- Example: 10.0.0.0 to 10.0.0.239 with minimum 0 yields 10.0.0.0/25, 10.0.0.128/26, 10.0.0.192/27, 10.0.0.224/28.
pub record IsWalkOf (range : SubnetRange) (networks : List Network) : Type 0 where
  pub blocks : AreMaximalBlocks (IsInRange range) range.min_prefix_len networks
  -- No two of them share an address.
  pub apart : ArePairwiseDisjoint networks
  -- They cover exactly the addresses of the range, and no shorter list does.
  pub shortest : IsShortestCover (IsInRange range) range.min_prefix_len networks
  -- With minimum prefix length 0 there are at most 2 * 32 - 2 = 62 for IPv4, and 254 for IPv6.
  pub few : range.min_prefix_len ≡ 0 → length networks ≤ 2 * width range.family - 2

-- One call of `next` on a walk. `network_of` is the network that an item represents, `range_of` the range of a walk,
-- and `left` the networks that it still yields. The trait promises that the first of them is returned; this adds the
-- rest.
-- Example: on the walk over 10.0.0.0 to 10.0.0.239 with minimum 0, the first call returns 10.0.0.0/25. It leaves
-- 10.0.0.128 to 10.0.0.239 with minimum 0.
pub record IsSubnetStep {S A : Type 0} (network_of : A → Network) (range_of : S → SubnetRange) (left : S → List Network)
    (old : S) (answer : Option A) (new : S) : Type 0 where
  -- The standard library requires this of each `next`: the list gets shorter. A `for` loop uses its fields `on`,
  -- `keeps` and `rests`.
  pub progress : MakesProgress (λ _. ⊤) (item_count left) old answer new
  pub open progress use *
  -- The network is the largest at the start of the range that ends in the range and has at least the minimum prefix
  -- length.
  pub largest : IfSome answer (λ n. IsLargestSubnetAt (range_of old).family (range_of old).start (range_of old).end
      (range_of old).min_prefix_len (network_of n))
  -- The stored ends after the call.
  pub advanced : IfSome answer (λ n. (x : Address) → IsGreatestOf (network_of n) x
      → IsAdvancedPast x.number (range_of old) (range_of new))
  -- The list before the call is the walk over the range before, and the list after it the walk over the range after.
  pub walk : IsWalkOf (range_of old) (left old)
  pub rest : IsWalkOf (range_of new) (left new)
  -- `None` is returned if and only if the start is above the end, and then nothing changes.
  pub over : IsNone answer ↔ ((range_of old).end < (range_of old).start)
  pub unchanged : IfNone answer (new ≡ old)

-- The range that an `Ipv4Subnets` stores: the addresses that are left to walk over, and the minimum prefix length.
-- Example: the walk over the subnets of 10.0.0.0/24 with length 26 begins with 10.0.0.0 to 10.0.0.255 and 26.
abbrev pub ipv4_subnet_range : Ipv4Subnets → SubnetRange
ipv4_subnet_range s = ipv4_range_of s.start s.end s.min_prefix_len

-- The range that an `Ipv6Subnets` stores.
abbrev pub ipv6_subnet_range : Ipv6Subnets → SubnetRange
ipv6_subnet_range s = ipv6_range_of s.start s.end s.min_prefix_len

-- The range that an `IpSubnets` stores.
abbrev pub ip_subnet_range : IpSubnets → SubnetRange
ip_subnet_range (Ip.V4 s) = ipv4_subnet_range s
ip_subnet_range (Ip.V6 s) = ipv6_subnet_range s

-- The networks that an `Ipv4Subnets` still yields: the one list of maximal blocks of its range. `blocks_exist` proves
-- that there is such a list, and `.0` is the list itself. All that is known of it is `IsWalkOf`, which the laws in
-- `subnets::walk_laws` state.
-- Example: after 10.0.0.0/25 the walk over 10.0.0.0 to 10.0.0.239 still yields 10.0.0.128/26, 10.0.0.192/27,
-- 10.0.0.224/28.
unfoldable pub ipv4_subnets_left : Ipv4Subnets → List Network
ipv4_subnets_left s = (blocks_exist IPv4 s.start s.end s.min_prefix_len s.end_fits s.min_prefix_fits).0

-- The networks that an `Ipv6Subnets` still yields.
unfoldable pub ipv6_subnets_left : Ipv6Subnets → List Network
ipv6_subnets_left s = (blocks_exist IPv6 s.start s.end s.min_prefix_len s.end_fits s.min_prefix_fits).0

-- The networks that an `IpSubnets` still yields.
abbrev pub ip_subnets_left : IpSubnets → List Network
ip_subnets_left (Ip.V4 s) = ipv4_subnets_left s
ip_subnets_left (Ip.V6 s) = ipv6_subnets_left s
