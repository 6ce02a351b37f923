-- Aggregates of lists: what they cover, disjoint networks, no more than the list has, equal answers and equal covers,
-- aggregates of aggregates.
use Rattle.std.proofs.Common.{◌≡◌, ◌≤◌, ◌↔◌, List, ◌++◌, length, map, Contains, All, sym, subst, arith}
use Rattle.ipnet_base.specs.Network.{Network, IsNetwork, InBlock, IsTruncated, truncation}
use Rattle.ipnet_base.specs.Blocks.{IsCoveredBy, HaveSameCover, IsExactCover, IsShortestCover, ArePairwiseDisjoint}
use Rattle.ipnet_base.specs.Blocks.{IsAggregateOf, IsCanonicalAggregateOf, AreMaximalBlocks}
use Rattle.ipnet_base.proofs.ListLaws.{all_at, all_from_members, any_from_contains}
use Rattle.ipnet_base.proofs.UniqueLaws.{AreMaximalBlocks-unique, AreMaximalBlocks-same_set, maximal_blocks_apart}
use Rattle.ipnet_base.proofs.DecidedLaws.{IsDecided-cover}
use Rattle.ipnet_base.proofs.CoverLaws.{HaveSameCover-sym, HaveSameCover-trans, HaveSameCover-append}
use Rattle.ipnet_base.proofs.CoverLaws.{cover_same_members, cover_truncation, covered_fits}
use Rattle.ipnet_base.proofs.ExactCoverLaws.{IsExactCover-of_maximal, IsShortestCover-of_maximal}
use Rattle.ipnet_base.proofs.NetworkLaws.{truncation_in, in_truncation, IsTruncated-truncation, IsNetwork-truncation}
use Rattle.ipnet_base.proofs.MaximalLaws.{maximal_above}

-- the maximal blocks of a cover cover it
blocks_cover : (networks blocks : List Network) → All IsNetwork networks
    → AreMaximalBlocks (IsCoveredBy networks) 0 blocks → HaveSameCover blocks networks
blocks_cover networks blocks valid h x = (to, from)
  where
    to : IsCoveredBy blocks x → IsCoveredBy networks x
    to a = ((h.members a.1).0 (a.0, a.2, a.3)).inside.within x a.4

    from : IsCoveredBy networks x → IsCoveredBy blocks x
    from a =
        let n : Network = a.1 in
        let c : Contains networks n = (a.0, a.2, a.3) in
        let (m, max, sub) = maximal_above (IsCoveredBy networks) 0 (IsDecided-cover networks) (truncation n) (record {
          network = IsNetwork-truncation n (all_at IsNetwork networks valid n c);
          truncated = IsTruncated-truncation n;
          long_enough = omega arith;
          within = λ y b. any_from_contains (λ k. InBlock k y) networks n c (truncation_in n y b);
        }) in
        any_from_contains (λ k. InBlock k x) blocks m ((h.members m).1 max) (sub x (in_truncation n x a.4))

-- Given that a list is the blocks of its own cover: it is the blocks of another list's cover if and only if the two
-- lists cover the same addresses.
same_blocks_iff_same_cover : (networks others blocks : List Network) → All IsNetwork networks
    → All IsNetwork others → AreMaximalBlocks (IsCoveredBy networks) 0 blocks
    → AreMaximalBlocks (IsCoveredBy others) 0 blocks ↔ HaveSameCover others networks
same_blocks_iff_same_cover networks others blocks u v h = (to, from)
  where
    to : AreMaximalBlocks (IsCoveredBy others) 0 blocks → HaveSameCover others networks
    to k x =
        let a : IsCoveredBy blocks x ↔ IsCoveredBy networks x = blocks_cover networks blocks u h x in
        let b : IsCoveredBy blocks x ↔ IsCoveredBy others x = blocks_cover others blocks v k x in
        (λ c. a.0 (b.1 c), λ c. b.0 (a.1 c))

    from : HaveSameCover others networks → AreMaximalBlocks (IsCoveredBy others) 0 blocks
    from same = AreMaximalBlocks-same_set (IsCoveredBy networks) (IsCoveredBy others) 0 blocks
        (λ x. ((same x).1, (same x).0)) h

-- an aggregate covers what its list covers, is the shortest list that does, and shares no address within
pub IsExactCover-of_aggregate : (networks answer : List Network) → All IsNetwork networks
    → IsAggregateOf answer networks → IsExactCover (IsCoveredBy networks) 0 answer
IsExactCover-of_aggregate networks answer valid h =
    IsExactCover-of_maximal (IsCoveredBy networks) 0 answer (IsDecided-cover networks)
    (λ x a. (covered_fits networks valid x a, omega arith)) h

IsShortestCover-of_aggregate : (networks answer : List Network) → All IsNetwork networks
    → IsAggregateOf answer networks → IsShortestCover (IsCoveredBy networks) 0 answer
IsShortestCover-of_aggregate networks answer valid h =
    IsShortestCover-of_maximal (IsCoveredBy networks) 0 answer h (IsExactCover-of_aggregate networks answer valid h)

pub aggregate_apart : (networks answer : List Network) → IsAggregateOf answer networks → ArePairwiseDisjoint answer
aggregate_apart networks answer h = maximal_blocks_apart (IsCoveredBy networks) 0 answer h

-- a list covers itself, so its aggregate is no longer
IsExactCover-itself : (networks : List Network) → All IsNetwork networks
    → IsExactCover (IsCoveredBy networks) 0 networks
IsExactCover-itself networks valid =
    record { valid = valid; long_enough = λ k d l. omega arith; covers = λ x. (λ a. a, λ a. a) }

aggregate_no_longer : (networks answer : List Network) → All IsNetwork networks → IsAggregateOf answer networks
    → length answer ≤ length networks
aggregate_no_longer networks answer valid h =
    (IsShortestCover-of_aggregate networks answer valid h).shortest networks (IsExactCover-itself networks valid)

pub aggregate_valid : (networks answer : List Network) → All IsNetwork networks → IsAggregateOf answer networks
    → All IsNetwork answer
aggregate_valid networks answer valid h = (IsExactCover-of_aggregate networks answer valid h).valid

aggregate_truncated : (networks answer : List Network) → IsAggregateOf answer networks → All IsTruncated answer
aggregate_truncated networks answer h =
    all_from_members IsTruncated answer (λ n c. ((h.members n).0 c).inside.truncated)

-- an aggregate is its own aggregate
pub aggregate_of_aggregate : (networks answer : List Network) → All IsNetwork networks → IsAggregateOf answer networks
    → IsAggregateOf answer answer
aggregate_of_aggregate networks answer valid h =
    AreMaximalBlocks-same_set (IsCoveredBy networks) (IsCoveredBy answer) 0 answer
    (λ x. let same : IsCoveredBy answer x ↔ IsCoveredBy networks x = blocks_cover networks answer valid h x in
    (same.1, same.0)) h

-- a list has one aggregate at most
IsAggregateOf-unique : (networks answer other : List Network) → IsAggregateOf answer networks
    → IsAggregateOf other networks → answer ≡ other
IsAggregateOf-unique networks answer other h k = AreMaximalBlocks-unique (IsCoveredBy networks) 0 answer other h k

-- lists with one cover have one aggregate, and aggregates are equal if and only if the covers are
pub aggregate_of_same_cover : (networks others answer : List Network) → HaveSameCover networks others
    → IsAggregateOf answer networks → IsAggregateOf answer others
aggregate_of_same_cover networks others answer same h =
    AreMaximalBlocks-same_set (IsCoveredBy networks) (IsCoveredBy others) 0 answer same h

pub same_aggregate_iff_same_cover : (networks others answer other : List Network) → All IsNetwork networks
    → All IsNetwork others
    → IsAggregateOf answer networks → IsAggregateOf other others → (answer ≡ other) ↔ HaveSameCover networks others
same_aggregate_iff_same_cover networks others answer other u v h k = (to, from)
  where
    to : answer ≡ other → HaveSameCover networks others
    to e x =
        let a : IsCoveredBy answer x ↔ IsCoveredBy networks x = blocks_cover networks answer u h x in
        let b : IsCoveredBy other x ↔ IsCoveredBy others x = blocks_cover others other v k x in
        (λ c. b.0 (subst (λ l. IsCoveredBy l x) e (a.1 c)), λ c. a.0 (subst (λ l. IsCoveredBy l x) (sym e) (b.1 c)))

    from : HaveSameCover networks others → answer ≡ other
    from same = IsAggregateOf-unique others answer other (aggregate_of_same_cover networks others answer same h) k

-- lists with the same truncated members have the same aggregate
pub aggregate_of_same_truncations : (networks others answer : List Network)
    → ((n : Network) → Contains (map truncation networks) n ↔ Contains (map truncation others) n)
    → IsAggregateOf answer networks ↔ IsAggregateOf answer others
aggregate_of_same_truncations networks others answer same = (
  λ h. aggregate_of_same_cover networks others answer cover h,
  λ h. aggregate_of_same_cover others networks answer (HaveSameCover-sym networks others cover) h,
)
  where
    cover : HaveSameCover networks others
    cover =
        let truncated : List Network = map truncation networks in
        let others_truncated : List Network = map truncation others in
        HaveSameCover-trans networks truncated others
        (HaveSameCover-sym truncated networks (cover_truncation networks))
        (HaveSameCover-trans truncated others_truncated others
        (cover_same_members truncated others_truncated same) (cover_truncation others))

-- the aggregate of two aggregates, one after the other, is the aggregate of the two lists together
pub aggregate_of_aggregates : (networks others first second answer : List Network) → All IsNetwork networks
    → All IsNetwork others → IsAggregateOf first networks → IsAggregateOf second others
    → IsAggregateOf answer (first ++ second) ↔ IsAggregateOf answer (networks ++ others)
aggregate_of_aggregates networks others first second answer valid others_valid h k = (
  λ a. aggregate_of_same_cover (first ++ second) (networks ++ others) answer same a,
  λ a. aggregate_of_same_cover (networks ++ others) (first ++ second) answer
      (HaveSameCover-sym (first ++ second) (networks ++ others) same) a,
)
  where
    same : HaveSameCover (first ++ second) (networks ++ others)
    same = HaveSameCover-append first second networks others (blocks_cover networks first valid h)
        (blocks_cover others second others_valid k)

-- all that is said of the aggregate of a list of networks
pub IsCanonicalAggregateOf-from_aggregate : (networks answer : List Network) → All IsNetwork networks
    → IsAggregateOf answer networks → IsCanonicalAggregateOf answer networks
IsCanonicalAggregateOf-from_aggregate networks answer valid h = record {
  aggregate = h;
  valid = aggregate_valid networks answer valid h;
  truncated = aggregate_truncated networks answer h;
  ascending = h.ascending;
  addresses = blocks_cover networks answer valid h;
  disjoint = aggregate_apart networks answer h;
  shortest = IsShortestCover-of_aggregate networks answer valid h;
  no_longer = aggregate_no_longer networks answer valid h;
  only = λ other k. IsAggregateOf-unique networks other answer k h;
  canonical = λ others others_valid. same_blocks_iff_same_cover networks others answer valid others_valid h;
  unordered = λ others same. (aggregate_of_same_truncations others networks answer same).1 h;
  again = aggregate_of_aggregate networks answer valid h;
}
