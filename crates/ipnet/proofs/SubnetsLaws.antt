-- The rest of a walk, from its stored ends, and how a step changes it, for both families.
use Rattle.std.proofs.Common.{◌≡◌, ℕ, ◌+◌, ◌^◌, ◌<◌, ◌≤◌, ◌⊎◌, ◌↔◌, List, [], ◌∷◌, Option, Some, None, IsNone}
use Rattle.std.proofs.Common.{subst, sym, ◌∙◌, arith, inl, inr, lit<}
use Rattle.std.proofs.lemmas.Bool.{cases_eq}
use Rattle.ipnet_base.specs.Address.{Family, Address, IPv4, IPv6, IsBetween, width, greatest_number}
use Rattle.ipnet_base.specs.Network.{Network, last_of}
use Rattle.ipnet_base.specs.Blocks.{AreMaximalBlocks}
use Rattle.ipnet_base.specs.Subnets.{SubnetRange, IsAdvancedPast, IsLargestSubnetAt}
use Rattle.ipnet_base.proofs.BlockLaws.{last_in, at}
use Rattle.ipnet_base.proofs.UniqueLaws.{AreMaximalBlocks-nil, AreMaximalBlocks-unique, AreMaximalBlocks-same_set}
use Rattle.ipnet_base.proofs.UniqueLaws.{maximal_blocks_apart}
use Rattle.ipnet_base.proofs.ExactCoverLaws.{IsShortestCover-of_range}
use Rattle.ipnet_base.proofs.CountLaws.{maximal_blocks_bound}
use Rattle.ipnet_base.proofs.WalkLaws.{AreMaximalBlocks-step, blocks_exist}
use Rattle.ipnet.specs.SubnetsLeft.{IsInRange, IsWalkOf, IsSubnetStep, ipv4_subnet_range, ipv4_subnets_left}
use Rattle.ipnet.specs.SubnetsLeft.{ipv6_subnet_range, ipv6_subnets_left, ip_subnet_range, ip_subnets_left}
use Rattle.ipnet.specs.declared.subnets.IpSubnets.{IpSubnets}
use Rattle.ipnet.specs.declared.subnets.ipv4_subnets.Ipv4Subnets.{Ipv4Subnets}
use Rattle.ipnet.specs.declared.subnets.ipv6_subnets.Ipv6Subnets.{Ipv6Subnets}
use Rattle.ipnet.specs.declared.subnets.IpSubnets.TheVariants as Ip

-- the list is the maximal blocks of the range
abbrev AreLeft : SubnetRange → List Network → Type 0
AreLeft range networks = AreMaximalBlocks (IsInRange range) range.min_prefix_len networks

-- the maximal blocks of a range are all that a walk is to be
IsWalkOf-from_blocks : (range : SubnetRange) (networks : List Network) → range.end < 2 ^ width range.family
    → range.min_prefix_len ≤ width range.family
    → AreLeft range networks → IsWalkOf range networks
IsWalkOf-from_blocks range networks end_fits short blocks = record {
  blocks = blocks;
  apart = maximal_blocks_apart (IsInRange range) range.min_prefix_len networks blocks;
  shortest =
      IsShortestCover-of_range range.family range.start range.end range.min_prefix_len networks end_fits short blocks;
  few =
      λ zero. maximal_blocks_bound range.family range.start range.end end_fits networks
      (subst (λ m. AreMaximalBlocks (IsInRange range) m networks) zero blocks);
}

pub ipv4_subnets_left-are_blocks : (s : Ipv4Subnets) → AreLeft (ipv4_subnet_range s) (ipv4_subnets_left s)
unfolding ipv4_subnets_left
ipv4_subnets_left-are_blocks s = (blocks_exist IPv4 s.start s.end s.min_prefix_len s.end_fits s.min_prefix_fits).1

pub ipv6_subnets_left-are_blocks : (s : Ipv6Subnets) → AreLeft (ipv6_subnet_range s) (ipv6_subnets_left s)
unfolding ipv6_subnets_left
ipv6_subnets_left-are_blocks s = (blocks_exist IPv6 s.start s.end s.min_prefix_len s.end_fits s.min_prefix_fits).1

-- what a walk has left is the walk of its range
pub ipv4_walk : (s : Ipv4Subnets) → IsWalkOf (ipv4_subnet_range s) (ipv4_subnets_left s)
ipv4_walk s =
    IsWalkOf-from_blocks (ipv4_subnet_range s) (ipv4_subnets_left s) s.end_fits s.min_prefix_fits
    (ipv4_subnets_left-are_blocks s)

pub ipv6_walk : (s : Ipv6Subnets) → IsWalkOf (ipv6_subnet_range s) (ipv6_subnets_left s)
ipv6_walk s =
    IsWalkOf-from_blocks (ipv6_subnet_range s) (ipv6_subnets_left s) s.end_fits s.min_prefix_fits
    (ipv6_subnets_left-are_blocks s)

pub ip_walk : (s : IpSubnets) → IsWalkOf (ip_subnet_range s) (ip_subnets_left s)
ip_walk (Ip.V4 s) = ipv4_walk s
ip_walk (Ip.V6 s) = ipv6_walk s

-- a step after one that returned `None` returns `None` too, and changes nothing
pub none_after_none : {S A : Type 0} (network_of : A → Network) (range_of : S → SubnetRange) (left : S → List Network)
    → (old middle new : S) (first second : Option A) → IsSubnetStep network_of range_of left old first middle
    → IsSubnetStep network_of range_of left middle second new → IsNone first → IsNone second × (new ≡ old)
none_after_none network_of range_of left old middle new None None a b none = (none, b.unchanged ∙ a.unchanged)
none_after_none network_of range_of left old middle new None (Some n) a b none =
    let apart = b.over.1 (subst (λ s. (range_of s).end < (range_of s).start) (sym a.unchanged) (a.over.0 none)) in
    cc
none_after_none network_of range_of left old middle new (Some n) second a b none = let apart = none in cc

-- the range by its parts
abbrev pub range_of : Family → (start end min_prefix_len : ℕ) → SubnetRange
range_of family start end min_prefix_len =
    record { family = family; start = start; end = end; min_prefix_len = min_prefix_len }

-- the same said of the ends that the walk was given
pub walk_by_ends : (f : Family) (networks : List Network) (s e m start end min_prefix_len : ℕ) → s ≡ start → e ≡ end
    → m ≡ min_prefix_len
    → IsWalkOf (range_of f s e m) networks → IsWalkOf (range_of f start end min_prefix_len) networks
walk_by_ends f networks s e m start end min_prefix_len p q r walk =
    let same : range_of f s e m ≡ range_of f start end min_prefix_len =
    λ i. record { family = f; start = p i; end = q i; min_prefix_len = r i } in
    subst (λ range. IsWalkOf range networks) same walk

-- an empty range has no blocks
pub nothing_left : (range : SubnetRange) (networks : List Network) → AreLeft range networks → range.end < range.start
    → networks ≡ []
nothing_left range networks blocks past =
    AreMaximalBlocks-unique (IsInRange range) range.min_prefix_len networks [] blocks
    (AreMaximalBlocks-nil (IsInRange range) range.min_prefix_len (λ x b. omega (arith, past, b.from_start, b.to_end)))

-- the block at the start of a range ends within it
last_within : (range : SubnetRange) (n : Network)
    → IsLargestSubnetAt range.family range.start range.end range.min_prefix_len n
    → (range.start ≤ last_of n) × (last_of n ≤ range.end)
last_within range n step =
    let b : IsInRange range (at n (last_of n)) = step.candidate.inside.within (at n (last_of n)) (last_in n) in
    (b.from_start, b.to_end)

greatest_above_zero : (f : Family) → 0 < greatest_number f
greatest_above_zero IPv4 = lit< tt
greatest_above_zero IPv6 = lit< tt

-- the new stored end: 0 if nothing lies after the block, else the end before
abbrev EndBecomes : (old new : SubnetRange) (last : ℕ) → Type 0
EndBecomes old new last =
    ((new.end ≡ 0) × (old.end ≤ last)) ⊎ ((new.end ≡ old.end) × (last < greatest_number old.family))

end_becomes : (old new : SubnetRange) (last : ℕ) → old.end ≤ greatest_number old.family → old.start ≤ last
    → last ≤ old.end → IsAdvancedPast last old new
    → EndBecomes old new last
end_becomes old new last fits from to advanced =
    elim (cases_eq last (greatest_number old.family)) [
      | inl top ↦ inl (advanced.end_zero (inl top), omega (arith, top, fits))
      | inr below ↦ elim (cases_eq old.start old.end) [
        | inl one ↦ inl (advanced.end_zero (inr one), omega (arith, one, from))
        | inr more ↦ inr (
          advanced.end_same (omega (arith, below, fits, to)) (omega (arith, more, from, to)),
          omega (arith, below, fits, to),
        )
      ]
    ]

-- the stored ends after a block hold exactly what lies after it
left_after : (old new : SubnetRange) (last : ℕ) → IsAdvancedPast last old new → EndBecomes old new last
    → (x : Address) → IsInRange new x ↔ IsBetween old.family (last + 1) old.end x
left_after old new last advanced (inl h) x = (
  λ b. absurd (omega (arith, h, advanced.start, b.from_start, b.to_end, greatest_above_zero old.family)),
  λ b. absurd (omega (arith, h, b.from_start, b.to_end)),
)
left_after old new last advanced (inr h) x = (
  λ b. record {
    of_family = b.of_family ∙ advanced.family;
    from_start = omega (arith, h, advanced.start, b.from_start);
    to_end = omega (arith, h, b.to_end);
  },
  λ b. record {
    of_family = b.of_family ∙ sym advanced.family;
    from_start =
        omega (arith, h, advanced.start, b.from_start);
    to_end = omega (arith, h, b.to_end);
  },
)

-- the step and what its stored ends leave are what was left before
pub left_advanced : (old new : SubnetRange) (n : Network) (networks rest : List Network)
    → old.end < 2 ^ width old.family
    → IsLargestSubnetAt old.family old.start old.end old.min_prefix_len n → IsAdvancedPast (last_of n) old new
    → AreLeft old networks → AreLeft new rest → networks ≡ n ∷ rest
left_advanced old new n networks rest fits step advanced before after =
    let within = last_within old n step in
    let later : AreMaximalBlocks (IsInRange new) old.min_prefix_len rest =
    subst (λ m. AreMaximalBlocks (IsInRange new) m rest) advanced.min_prefix_len after in
    AreMaximalBlocks-unique (IsInRange old) old.min_prefix_len networks (n ∷ rest) before
    (AreMaximalBlocks-step old.family old.start old.end old.min_prefix_len n rest step
    (AreMaximalBlocks-same_set (IsInRange new) (IsBetween old.family (last_of n + 1) old.end) old.min_prefix_len rest
    (left_after old new (last_of n) advanced
    (end_becomes old new (last_of n) (omega (arith, fits)) within.0 within.1 advanced)) later))
