-- The addresses that a list of networks covers; the maximal blocks and the shortest cover of a set; the aggregate of a
-- list (RFC 4632, section 4).
-- `InSet` is any set of addresses, such as `IsCoveredBy networks` or `IsBetween family start end`. A network shorter
-- than `min_prefix_len` does not count; the minimum is 0 for aggregates, and a walk has one of its own.
use Rattle.std.specs.Prelude.{◌≡◌, ℕ, ◌<◌, ◌≤◌, ◌↔◌, ◌⊎◌, List, length, map, Contains, All, AllPairs, Any}
use Rattle.std.specs.Prelude.{IsPermutation}
use Rattle.std.specs.List.{AllAdjacentBelow}
use Rattle.ipnet_base.specs.Address.{Address, IsAddressBefore, family_index}
use Rattle.ipnet_base.specs.Network.{Network, IsNetwork, InBlock, IsSubnetOf, AreDisjoint, IsTruncated, AreHalves}
use Rattle.ipnet_base.specs.Network.{IsBefore, truncation}

-- The address lies in the block of one of the networks. A list covers the union of the blocks of its networks.
-- Example: 10.0.0.128/25 and 10.0.0.9/25 together cover 10.0.0.0 to 10.0.0.255.
abbrev pub IsCoveredBy : List Network → Address → Type 0
IsCoveredBy networks x = Any (λ n. InBlock n x) networks

-- The two lists cover the same addresses. Example: 10.0.0.128/25 with 10.0.0.9/25, and 10.0.0.0/24.
abbrev pub HaveSameCover : List Network → List Network → Type 0
HaveSameCover networks others = (x : Address) → IsCoveredBy networks x ↔ IsCoveredBy others x

-- The network is truncated, its length is at least `min_prefix_len`, and its block lies in the set.
-- Example: inside 0.0.0.1 to 0.0.0.6, with minimum 0, are the six networks of length 32, 0.0.0.2/31 and 0.0.0.4/31. The
-- network 0.0.0.0/31 is not inside, because 0.0.0.0 is not in the set.
pub record IsInside (InSet : Address → Type 0) (min_prefix_len : ℕ) (n : Network) : Type 0 where
  pub network : IsNetwork n
  pub truncated : IsTruncated n
  pub long_enough : min_prefix_len ≤ n.prefix_len
  pub within : (x : Address) → InBlock n x → InSet x

-- The network is inside the set, and no larger network inside the set contains it.
-- Example: maximal in 0.0.0.1 to 0.0.0.6 are 0.0.0.1/32, 0.0.0.2/31, 0.0.0.4/31 and 0.0.0.6/32 with minimum 0, and the
-- six networks of length 32 with minimum 32.
pub record IsMaximal (InSet : Address → Type 0) (min_prefix_len : ℕ) (n : Network) : Type 0 where
  pub inside : IsInside InSet min_prefix_len n
  pub largest : (k : Network) → IsInside InSet min_prefix_len k → IsSubnetOf n k → k ≡ n

-- Each network comes before all later ones in the order of networks, so none occurs twice.
-- Example: 10.0.0.0/8, 10.0.0.0/24, ::/0.
abbrev pub IsAscending : List Network → Type 0
IsAscending networks = AllPairs IsBefore networks

-- No two networks of the list share an address. Example: 10.0.0.0/25, 10.0.0.128/25.
abbrev pub ArePairwiseDisjoint : List Network → Type 0
ArePairwiseDisjoint networks = AllPairs AreDisjoint networks

-- The list is the maximal networks of the set, ascending, each once. A set has at most one such list.
-- Example: 0.0.0.1/32, 0.0.0.2/31, 0.0.0.4/31, 0.0.0.6/32 for 0.0.0.1 to 0.0.0.6 with minimum 0.
pub record AreMaximalBlocks (InSet : Address → Type 0) (min_prefix_len : ℕ) (networks : List Network) : Type 0 where
  pub ascending : IsAscending networks
  pub members : (n : Network) → Contains networks n ↔ IsMaximal InSet min_prefix_len n

-- A list of networks of length at least `min_prefix_len` that covers exactly the set. The networks may be in any order,
-- repeat, overlap, and have host bits set.
-- Example: 128.0.0.9/1, 0.0.0.0/1 is an exact cover of all IPv4 addresses, with minimum 0 or 1.
pub record IsExactCover (InSet : Address → Type 0) (min_prefix_len : ℕ) (networks : List Network) : Type 0 where
  pub valid : All IsNetwork networks
  pub long_enough : All (λ n. min_prefix_len ≤ n.prefix_len) networks
  pub covers : (x : Address) → IsCoveredBy networks x ↔ InSet x

-- An exact cover with the fewest networks, none with a host bit set. Any other exact cover of that length is the same
-- networks in some order, once truncated.
-- Example: 0.0.0.0/0 for all IPv4 addresses with minimum 0; 0.0.0.0/1, 128.0.0.0/1 with minimum 1.
pub record IsShortestCover (InSet : Address → Type 0) (min_prefix_len : ℕ) (networks : List Network) : Type 0 where
  pub exact : IsExactCover InSet min_prefix_len networks
  pub shortest : (cover : List Network) → IsExactCover InSet min_prefix_len cover → length networks ≤ length cover
  pub only : (cover : List Network) → IsExactCover InSet min_prefix_len cover → length cover ≡ length networks
      → IsPermutation (map truncation cover) networks

-- `answer` is the aggregate of `networks`: the maximal blocks of the addresses that they cover.
-- Example: 10.0.0.128/25, 10.0.0.64/26, 10.0.0.0/26 have the aggregate 10.0.0.0/24. The aggregate of 10.0.1.0/24 and
-- 10.0.2.0/24 is these two: 10.0.0.0/23 has 10.0.0.0, and 10.0.2.0/23 has 10.0.3.0, which they do not cover.
abbrev pub IsAggregateOf : List Network → List Network → Type 0
IsAggregateOf answer networks = AreMaximalBlocks (IsCoveredBy networks) 0 answer

-- The aggregate, and the facts that follow for every list of networks. This is the contract of `aggregate`; a proof
-- uses each fact by its field name.
-- In the examples, `networks` is 10.0.0.128/25, 10.0.0.9/25, and `answer` is 10.0.0.0/24.
pub record IsCanonicalAggregateOf (answer networks : List Network) : Type 0 where
  -- It is the maximal blocks of the addresses that the list covers, ascending, each once.
  pub aggregate : IsAggregateOf answer networks
  -- Each of its networks has an address of its family, a prefix length of at most the width, and no host bit.
  pub valid : All IsNetwork answer
  pub truncated : All IsTruncated answer
  -- Each of its networks comes before all later ones.
  pub ascending : IsAscending answer
  -- It covers the same addresses as the list. Example: 10.0.0.0 to 10.0.0.255.
  pub addresses : HaveSameCover answer networks
  -- No two of its networks share an address.
  pub disjoint : ArePairwiseDisjoint answer
  -- No list that covers exactly these addresses is shorter. One of the same length is the aggregate, once truncated and
  -- sorted.
  pub shortest : IsShortestCover (IsCoveredBy networks) 0 answer
  -- It has at most as many networks as the list. Example: one, and the list has two.
  pub no_longer : length answer ≤ length networks
  -- The list has no other aggregate.
  pub only : (other : List Network) → IsAggregateOf other networks → other ≡ answer
  -- It is the aggregate of another list of networks if and only if that list covers the same addresses.
  -- Example: it is the aggregate of 10.0.0.0/26, 10.0.0.64/26, 10.0.0.128/25, and not of 10.0.0.0/25.
  pub canonical : (others : List Network) → All IsNetwork others
      → IsAggregateOf answer others ↔ HaveSameCover others networks
  -- The order, repeats and host bits of the list do not matter. It is the aggregate of every list that has the same
  -- networks, once truncated. Example: 10.0.0.0/25, 10.0.0.200/25, 10.0.0.0/25.
  pub unordered : (others : List Network)
      → ((n : Network) → Contains (map truncation others) n ↔ Contains (map truncation networks) n)
      → IsAggregateOf answer others
  -- It is its own aggregate.
  pub again : IsAggregateOf answer answer

-- Four conditions on each network and the next. A list meets them if and only if it is its own aggregate.
-- Example: 10.0.0.128/25, 10.0.1.0/25 meets all four.
pub record AreAggregatedNeighbours (networks : List Network) : Type 0 where
  -- No network has a host bit set. 10.0.0.5/24 fails.
  pub truncated : All IsTruncated networks
  -- IPv4 comes before IPv6. ::/0, 0.0.0.0/0 fails.
  pub ipv4_first : AllAdjacentBelow (λ n k. family_index n.family ≤ family_index k.family)
      networks (length networks)
  -- In one family, the next network starts after the last address of this one. 10.0.0.0/24, 10.0.0.0/24 fails.
  pub apart : AllAdjacentBelow (λ n k. n.family ≡ k.family → (x : Address) → InBlock n x → x.number < k.number)
      networks (length networks)
  -- No two neighbours are the two halves of one supernet. 10.0.0.0/25, 10.0.0.128/25 fails.
  pub unjoined : AllAdjacentBelow (λ n k. ¬ (AreHalves n k)) networks (length networks)

-- The union of two sets.
-- Example: 10.0.0.0 to 10.0.0.127 and 10.0.0.128 to 10.0.0.255 give 10.0.0.0 to 10.0.0.255.
abbrev pub IsInEither : (Address → Type 0) → (Address → Type 0) → Address → Type 0
IsInEither First Second x = First x ⊎ Second x

-- The first set comes before the second, and the two are not adjacent. So no block lies in their union and meets both.
-- Example: 10.0.0.0 to 10.0.0.127 and 10.0.0.192 to 10.0.0.255, with 10.0.0.128 between them. A set of IPv4 addresses
-- and a set of IPv6 addresses are always separated.
pub record AreSeparated (First Second : Address → Type 0) : Type 0 where
  -- Every address of the first set comes before every address of the second.
  pub before : (x y : Address) → First x → Second y → IsAddressBefore x y
  -- Between two addresses of one family, one from each set, is an address that is in neither set.
  pub gap : (x y : Address) → First x → Second y → x.family ≡ y.family
      → (z : Address) × (z.family ≡ x.family) × (x.number < z.number) × (z.number < y.number)
      × ¬ (IsInEither First Second z)
