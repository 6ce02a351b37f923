-- How many ranges a set has, by the number of its boundaries in each family.
use Rattle.std.proofs.Common.{◌≡◌, ℕ, ◌+◌, ◌/◌, ◌%◌, ◌≤◌, List, length, map, ◌++◌, refl, sym, ap, subst, arith}
use Rattle.std.proofs.lemmas.List.{length-append, length-map}
use Rattle.ipnet_base.specs.Address.{Family, IPv4, IPv6}
use Rattle.ipnet_base.specs.Ranges.{AddressRange}
use Rattle.ipnet_base.proofs.ListLaws.{all_from_members}
use Rattle.ipnet_sets.specs.declared.set.IpSet.{IpSet}
use Rattle.ipnet_sets.specs.Boundaries.{AreBoundaries, by_family}
use Rattle.ipnet_sets.specs.Members.{boundaries_of, IsMember, IsMemberOf, HasNoMoreRanges, HasOneMoreRange}
use Rattle.ipnet_sets.specs.SetRanges.{AreRangesOf}
use Rattle.ipnet_sets.specs.BoundaryRanges.{IsInBoundaries, ranges_of}
use Rattle.ipnet_sets.proofs.FewestRanges.{fewest_ranges}
use Rattle.ipnet_sets.proofs.ImageSetLaws.{boundaries_are}
use Rattle.ipnet_sets.proofs.RangeEndLaws.{length-ranges_of}
use Rattle.ipnet_sets.proofs.SetRangeLaws.{in_ranges, ranges_some, ranges_apart, members_of_family, ranges_of_set}

-- the ranges of one family of a set
ranges_of_family : (s : IpSet) (f : Family) → AreRangesOf (IsMemberOf f s) (ranges_of f (boundaries_of s f))
ranges_of_family s f =
    let boundaries : AreBoundaries f (boundaries_of s f) = boundaries_are s f in
    record {
      some = all_from_members (λ r. r.start ≤ r.end) (ranges_of f (boundaries_of s f))
          (λ r c. (ranges_some f (boundaries_of s f) boundaries r c).1);
      apart = ranges_apart f (boundaries_of s f) boundaries;
      members = λ x. (
        λ m. (in_ranges f (boundaries_of s f) boundaries x).0
            (subst (λ g. IsInBoundaries g (boundaries_of s g) x) m.0 ((members_of_family s x).0 m.1)),
        λ a.
            let i : IsInBoundaries f (boundaries_of s f) x = (in_ranges f (boundaries_of s f) boundaries x).1 a in (
              i.of_family,
              (members_of_family s x).1 (subst (λ g. IsInBoundaries g (boundaries_of s g) x) (sym i.of_family) i),
            ),
      );
    }

-- half of a number, rounded up
abbrev half : ℕ → ℕ
half n = n / 2 + n % 2

halves : (x y z : ℕ) → x ≤ y + z → half x ≤ half y + half z
halves x y z le = omega (arith, le)

count_in_family : (s : IpSet) (f : Family) (ranges : List AddressRange) → AreRangesOf (IsMemberOf f s) ranges
    → length ranges ≡ half (length (boundaries_of s f))
count_in_family s f ranges h =
    let own = ranges_of_family s f in
    omega (
      arith,
      fewest_ranges (IsMemberOf f s) ranges h (ranges_of f (boundaries_of s f)) own.members,
      fewest_ranges (IsMemberOf f s) (ranges_of f (boundaries_of s f)) own ranges h.members,
      length-ranges_of f (boundaries_of s f),
    )

count_in_set : (s : IpSet) (ranges : List AddressRange) → AreRangesOf (IsMember s) ranges
    → length ranges ≡ half (length (boundaries_of s IPv4)) + half (length (boundaries_of s IPv6))
count_in_set s ranges h =
    let ipv4 = ranges_of IPv4 (boundaries_of s IPv4) in
    let ipv6 = ranges_of IPv6 (boundaries_of s IPv6) in
    let own : AreRangesOf (IsMember s) (ipv4 ++ ipv6)
    = ranges_of_set s (boundaries_of s IPv4) (boundaries_of s IPv6) refl refl s.ipv4_boundaries s.ipv6_boundaries in
    omega (
      arith,
      fewest_ranges (IsMember s) ranges h (ipv4 ++ ipv6) own.members,
      fewest_ranges (IsMember s) (ipv4 ++ ipv6) own ranges h.members,
      length-append ipv4 ipv6,
      length-ranges_of IPv4 (boundaries_of s IPv4),
      length-ranges_of IPv6 (boundaries_of s IPv6),
    )

pub no_more_ranges : (s a b : IpSet)
    → ((f : Family) → length (boundaries_of s f) ≤ length (boundaries_of a f) + length (boundaries_of b f))
    → HasNoMoreRanges s a b
no_more_ranges s a b few ranges first second h k l =
    omega (
      arith,
      count_in_set s ranges h,
      count_in_set a first k,
      count_in_set b second l,
      halves (length (boundaries_of s IPv4)) (length (boundaries_of a IPv4)) (length (boundaries_of b IPv4)) (few IPv4),
      halves (length (boundaries_of s IPv6)) (length (boundaries_of a IPv6)) (length (boundaries_of b IPv6)) (few IPv6),
    )

-- two boundaries more are one range more
pub one_more_range : (s a : IpSet) → ((f : Family) → length (boundaries_of s f) ≤ length (boundaries_of a f) + 2)
    → HasOneMoreRange s a
one_more_range s a few f ranges first h k =
    omega (
      arith,
      count_in_family s f ranges h,
      count_in_family a f first k,
      halves (length (boundaries_of s f)) (length (boundaries_of a f)) 2 (few f),
    )

-- the boundaries of a complement, by the lists that hold them
pub one_more_boundary : (a : IpSet) (ipv4 ipv6 first4 first6 : List ℕ) → first4 ≡ a.ipv4.items → first6 ≡ a.ipv6.items
    → length ipv4 ≤ length first4 + 1 → length ipv6 ≤ length first6 + 1
    → (f : Family) → length (by_family (map (λ n. n) ipv4) (map (λ n. n) ipv6) f) ≤ length (boundaries_of a f) + 2
one_more_boundary a ipv4 ipv6 first4 first6 e g h k IPv4 =
    omega (arith, h, ap length e, length-map ipv4 (λ n. n), length-map a.ipv4.items (λ n. n))
one_more_boundary a ipv4 ipv6 first4 first6 e g h k IPv6 =
    omega (arith, k, ap length g, length-map ipv6 (λ n. n), length-map a.ipv6.items (λ n. n))
