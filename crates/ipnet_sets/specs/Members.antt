-- The addresses of a value of `IpSet`, and the operations on sets of addresses. Contracts see nothing else of a value.
-- In the examples, a is 10.0.0.0 to 10.0.0.5, and b is 10.0.0.3 to 10.0.0.9.
use Rattle.std.specs.Prelude.{◌≡◌, ◌≢◌, ◌+◌, ◌<◌, ◌≤◌, ◌⊎◌, ◌↔◌, ℕ, Bool, true, List, map, length}
use Rattle.std.specs.Prelude.{Contains, AllPairs}
use Rattle.ipnet_base.specs.Address.{Family, Address, IsAddress, family_index}
use Rattle.ipnet_base.specs.Network.{Network}
use Rattle.ipnet_base.specs.Blocks.{IsCoveredBy}
use Rattle.ipnet_base.specs.Ranges.{AddressRange}
use Rattle.ipnet_sets.specs.declared.set.IpSet.{IpSet}
use Rattle.ipnet_sets.specs.declared.operation.Operation.{Operation}
use Rattle.ipnet_sets.specs.declared.operation.Operation.TheVariants.{Union, Intersection, Difference}
use Rattle.ipnet_sets.specs.declared.operation.Operation.TheVariants.{SymmetricDifference}
use Rattle.ipnet_sets.specs.SetRanges.{AreRangesOf}
use Rattle.ipnet_sets.specs.Boundaries.{is_inside, by_family}

-- The boundaries of the set in a family: the ascending numbers at which it begins or ends. An end after the family's
-- last address is left out. Example: for IPv4, a has the boundaries 10.0.0.0 and 10.0.0.6; 255.255.255.254/31 has one,
-- 255.255.255.254.
abbrev pub boundaries_of : IpSet → Family → List ℕ
boundaries_of s = by_family (map (λ n. n) s.ipv4.items) (map (λ n. n) s.ipv6.items)

-- Whether the set contains the address: the number of boundaries up to it is odd.
-- Example: the set a has one boundary up to 10.0.0.5, so it contains 10.0.0.5, and two boundaries up to 10.0.0.6.
abbrev pub is_member : IpSet → Address → Bool
is_member s x = is_inside (boundaries_of s x.family) x.number

-- The set contains the address, and the number of the address fits in its family. Example: the set a contains
-- 10.0.0.5, and not 10.0.0.6. No set contains the number 2^32 of IPv4, which is above 255.255.255.255.
pub record IsMember (s : IpSet) (x : Address) : Type 0 where
  pub fits : IsAddress x
  pub inside : is_member s x ≡ true

-- The sets have the same addresses. Example: the set a, and the set of 10.0.0.0/30 and 10.0.0.4/31.
abbrev pub HaveSameAddresses : IpSet → IpSet → Type 0
HaveSameAddresses s t = (x : Address) → IsMember s x ↔ IsMember t x

-- The set is empty.
-- Example: the difference of a and a.
abbrev pub HasNoAddress : IpSet → Type 0
HasNoAddress s = (x : Address) → ¬ (IsMember s x)

-- Each address of the set `a` is in the set `b`. Example: 10.0.0.3 to 10.0.0.5 is a subset of 10.0.0.0 to 10.0.0.5, and
-- 10.0.0.0 to 10.0.0.5 is not a subset of 10.0.0.3 to 10.0.0.9. The empty set is a subset of every set.
abbrev pub IsSubset : IpSet → IpSet → Type 0
IsSubset a b = (x : Address) → IsMember a x → IsMember b x

-- `s` is the union of `a` and `b`. Example: 10.0.0.0 to 10.0.0.9.
abbrev pub IsUnion : IpSet → IpSet → IpSet → Type 0
IsUnion s a b = (x : Address) → IsMember s x ↔ (IsMember a x ⊎ IsMember b x)

-- `s` is the intersection of `a` and `b`. Example: 10.0.0.3 to 10.0.0.5.
abbrev pub IsIntersection : IpSet → IpSet → IpSet → Type 0
IsIntersection s a b = (x : Address) → IsMember s x ↔ (IsMember a x × IsMember b x)

-- `s` is `a` without `b`. Example: 10.0.0.0 to 10.0.0.2.
abbrev pub IsDifference : IpSet → IpSet → IpSet → Type 0
IsDifference s a b = (x : Address) → IsMember s x ↔ (IsMember a x × ¬ (IsMember b x))

-- `s` is the addresses that are in exactly one of `a` and `b`. Example: 10.0.0.0 to 10.0.0.2 and 10.0.0.6 to 10.0.0.9.
abbrev pub IsSymmetricDifference : IpSet → IpSet → IpSet → Type 0
IsSymmetricDifference s a b = (x : Address) → IsMember s x
    ↔ ((IsMember a x × ¬ (IsMember b x)) ⊎ (IsMember b x × ¬ (IsMember a x)))

-- Whether an address is in the result of the operation, given whether it is in the first set and in the second.
abbrev pub IsCombined : Operation → Type 0 → Type 0 → Type 0
IsCombined Union first second = first ⊎ second
IsCombined Intersection first second = first × second
IsCombined Difference first second = first × ¬ second
IsCombined SymmetricDifference first second = (first × ¬ second) ⊎ (second × ¬ first)

-- `s` is the result of the operation on `a` and `b`. Example: for `Union` the set is 10.0.0.0 to 10.0.0.9.
abbrev pub IsResultOf : Operation → IpSet → IpSet → IpSet → Type 0
IsResultOf operation s a b = (x : Address) → IsMember s x ↔ IsCombined operation (IsMember a x) (IsMember b x)

-- `s` is all addresses of both families that are not in `a`. Read: if the number of x fits in its family, then x is in
-- `s` if and only if it is not in `a`. The number 2^32 of IPv4 does not fit, and is in neither set.
-- Example: 0.0.0.0 to 9.255.255.255, 10.0.0.6 to 255.255.255.255 and all IPv6 addresses.
abbrev pub IsComplement : IpSet → IpSet → Type 0
IsComplement s a = (x : Address) → IsAddress x → IsMember s x ↔ ¬ (IsMember a x)

-- The set has the addresses that the networks cover. Example: the set a, and 10.0.0.0/31, 10.0.0.2/31, 10.0.0.4/31.
abbrev pub HasAddressesOf : IpSet → List Network → Type 0
HasAddressesOf s networks = (x : Address) → IsMember s x ↔ IsCoveredBy networks x

-- The address is in the set and of this family.
-- Example: the IPv4 addresses of the set of 10.0.0.0/8 and fd00::/8 are 10.0.0.0/8.
abbrev pub IsMemberOf : Family → IpSet → Address → Type 0
IsMemberOf f s x = (x.family ≡ f) × IsMember s x

-- The set has an address of the family.
abbrev pub HasFamily : Family → IpSet → Type 0
HasFamily f s = (x : Address) × IsMemberOf f s x

-- The set `s` has at most as many ranges as `a` and `b` together. So the operands bound the size of a result.
abbrev pub HasNoMoreRanges : IpSet → IpSet → IpSet → Type 0
HasNoMoreRanges s a b = (ranges first second : List AddressRange) → AreRangesOf (IsMember s) ranges
    → AreRangesOf (IsMember a) first → AreRangesOf (IsMember b) second
    → length ranges ≤ length first + length second

-- The set `s` has at most one range more than `a` in each family.
abbrev pub HasOneMoreRange : IpSet → IpSet → Type 0
HasOneMoreRange s a = (f : Family) (ranges first : List AddressRange) → AreRangesOf (IsMemberOf f s) ranges
    → AreRangesOf (IsMemberOf f a) first → length ranges ≤ length first + 1

-- The set has `n` addresses: a list of length `n` has each of them once, and no other. Example: 10.0.0.0/30 has 4.
pub record IsCountOf (InSet : Address → Type 0) (n : ℕ) : Type 0 where
  pub addresses : List Address
  pub once : AllPairs (λ x y. x ≢ y) addresses
  pub members : (x : Address) → Contains addresses x ↔ InSet x
  pub count : length addresses ≡ n

-- The address `x` is `y` or comes before it: IPv4 before IPv6, then by number. Example: 10.0.0.1 is at most 10.0.0.1
-- and `::`.
abbrev pub IsAtMost : Address → Address → Type 0
IsAtMost x y = (family_index x.family < family_index y.family) ⊎ ((x.family ≡ y.family) × (x.number ≤ y.number))

-- The first address of the set. Example: 10.0.0.0 for 10.0.0.0/8 and fd00::/8 together.
pub record IsFirstOf (InSet : Address → Type 0) (x : Address) : Type 0 where
  pub member : InSet x
  pub first : (y : Address) → InSet y → IsAtMost x y

-- The last address of the set. Example: fdff:ffff:ffff:ffff:ffff:ffff:ffff:ffff for 10.0.0.0/8 and fd00::/8 together.
pub record IsLastOf (InSet : Address → Type 0) (x : Address) : Type 0 where
  pub member : InSet x
  pub last : (y : Address) → InSet y → IsAtMost y x

-- The addresses from `start` to `end`, if both are of one family; none otherwise.
-- Example: 10.0.0.3 to 10.0.0.5 has three addresses; 10.0.0.3 to fd00::5 has none.
pub record IsFromTo (start end : Address) (x : Address) : Type 0 where
  pub family_of_start : x.family ≡ start.family
  pub family_of_end : x.family ≡ end.family
  pub from_start : start.number ≤ x.number
  pub to_end : x.number ≤ end.number
