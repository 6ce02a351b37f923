-- Separated sets, such as the covers of networks of two families: the maximal blocks of both sets together are the
-- blocks of the first set, then the blocks of the second.
use Rattle.std.proofs.Common.{◌≡◌, ℕ, ◌≤◌, ◌⊎◌, List, ◌++◌, All, refl, sym, ap, arith, inl, inr, ◌∙◌}
use Rattle.std.proofs.lemmas.List.Elements.{Contains-append_left, Contains-append_right, Contains-append_cases}
use Rattle.ipnet_base.specs.Address.{Address, family_index, IsAddressBefore, Family, IPv4, IPv6}
use Rattle.ipnet_base.specs.Network.{Network, InBlock, IsTruncated, IsBefore}
use Rattle.ipnet_base.specs.Blocks.{IsCoveredBy, IsInside, IsMaximal, AreMaximalBlocks, IsAggregateOf, IsInEither}
use Rattle.ipnet_base.specs.Blocks.{AreSeparated}
use Rattle.ipnet_base.proofs.BlockLaws.{own, own_in, block_between}
use Rattle.ipnet_base.proofs.ListLaws.{all_at, pairs_append}
use Rattle.ipnet_base.proofs.CoverLaws.{covering_member, cover_append}
use Rattle.ipnet_base.proofs.MaximalLaws.{IsInside-of_block}
use Rattle.ipnet_base.proofs.UniqueLaws.{AreMaximalBlocks-same_set}

-- an address does not come before one of the same family with the same or a smaller number
not_before : (x y : Address) → IsAddressBefore x y → x.family ≡ y.family → y.number ≤ x.number → ⊥
not_before x y (inl h) same le = omega (arith, h, ap family_index same)
not_before x y (inr h) same le = omega (arith, h.1, le)

-- networks are in order if their own addresses are
before_from_own : (n k : Network) → IsAddressBefore (own n) (own k) → IsBefore n k
before_from_own n k (inl h) = inl h
before_from_own n k (inr h) = inr (h.0, inl h.1)

module _ (First Second : Address → Type 0) (least : ℕ) (apart : AreSeparated First Second) where
  -- no address is in both sets
  not_both : (x : Address) → First x → Second x → ⊥
  not_both x a b = not_before x x (apart.before x x a b) refl (omega arith)

  -- a block in both sets together lies in one of them
  one_side : (n : Network) → IsTruncated n → ((x : Address) → InBlock n x → IsInEither First Second x)
      → ((x : Address) → InBlock n x → First x) ⊎ ((x : Address) → InBlock n x → Second x)
  one_side n t within = elim (within (own n) (own_in n)) [
    | inl low ↦ inl (λ x a. elim (within x a) [
      | inl in_first ↦ in_first
      | inr in_second ↦
          let (z, same, above, below, neither) = apart.gap (own n) x low in_second (sym a.same_family) in
          absurd (neither (within z (block_between n x z a same (omega (arith, above)) (omega (arith, below)))))
    ])
    | inr high ↦ inr (λ x a. elim (within x a) [
      | inr in_second ↦ in_second
      | inl in_first ↦
          absurd (not_before x (own n) (apart.before x (own n) in_first high) a.same_family (t x a))
    ])
  ]

  narrowed : (Part : Address → Type 0) (n : Network) → IsInside (IsInEither First Second) least n
      → ((x : Address) → InBlock n x → Part x) → IsInside Part least n
  narrowed Part n i within = IsInside-of_block (IsInEither First Second) Part least n i within

  -- and one in either set lies in both together
  from_first : (n : Network) → IsInside First least n → IsInside (IsInEither First Second) least n
  from_first n i = IsInside-of_block First (IsInEither First Second) least n i (λ x a. inl (i.within x a))

  from_second : (n : Network) → IsInside Second least n → IsInside (IsInEither First Second) least n
  from_second n i = IsInside-of_block Second (IsInEither First Second) least n i (λ x a. inr (i.within x a))

  maximal_of_either : (n : Network) → IsMaximal (IsInEither First Second) least n
      → IsMaximal First least n ⊎ IsMaximal Second least n
  maximal_of_either n h = elim (one_side n h.inside.truncated h.inside.within) [
    | inl low ↦ inl (record {
      inside = narrowed First n h.inside low;
      largest = λ k i s. h.largest k (from_first k i) s;
    })
    | inr high ↦ inr (record {
      inside = narrowed Second n h.inside high;
      largest = λ k i s. h.largest k (from_second k i) s;
    })
  ]

  maximal_of_first : (n : Network) → IsMaximal First least n → IsMaximal (IsInEither First Second) least n
  maximal_of_first n h = record {
    inside = from_first n h.inside;
    largest = λ k i s. elim (one_side k i.truncated i.within) [
      | inl low ↦ h.largest k (narrowed First k i low) s
      | inr high ↦ absurd (not_both (own n) (h.inside.within (own n) (own_in n)) (high (own n) (s (own n) (own_in n))))
    ];
  }

  maximal_of_second : (n : Network) → IsMaximal Second least n → IsMaximal (IsInEither First Second) least n
  maximal_of_second n h = record {
    inside = from_second n h.inside;
    largest = λ k i s. elim (one_side k i.truncated i.within) [
      | inr high ↦ h.largest k (narrowed Second k i high) s
      | inl low ↦ absurd (not_both (own n) (low (own n) (s (own n) (own_in n))) (h.inside.within (own n) (own_in n)))
    ];
  }

  -- the maximal blocks of the two sets together
  pub AreMaximalBlocks-append : (networks others : List Network) → AreMaximalBlocks First least networks
      → AreMaximalBlocks Second least others → AreMaximalBlocks (IsInEither First Second) least (networks ++ others)
  AreMaximalBlocks-append networks others h k = record {
    ascending = pairs_append IsBefore networks others h.ascending k.ascending
        (λ n m c d. before_from_own n m (apart.before (own n) (own m)
        (((h.members n).0 c).inside.within (own n) (own_in n)) (((k.members m).0 d).inside.within (own m) (own_in m))));
    members = λ n. (
      λ c. elim (Contains-append_cases networks others n c) [
        | inl d ↦ maximal_of_first n ((h.members n).0 d)
        | inr d ↦ maximal_of_second n ((k.members n).0 d)
      ],
      λ m. elim (maximal_of_either n m) [
        | inl low ↦ Contains-append_left networks others n ((h.members n).1 low)
        | inr high ↦ Contains-append_right networks others n ((k.members n).1 high)
      ],
    );
  }

-- so the aggregates of lists whose covers are separated are, one after the other, the aggregate of both lists
pub IsAggregateOf-append : (networks others first second : List Network)
    → AreSeparated (IsCoveredBy networks) (IsCoveredBy others) → IsAggregateOf first networks
    → IsAggregateOf second others
    → IsAggregateOf (first ++ second) (networks ++ others)
IsAggregateOf-append networks others first second apart h k =
    AreMaximalBlocks-same_set (IsInEither (IsCoveredBy networks) (IsCoveredBy others))
    (IsCoveredBy (networks ++ others)) 0
    (first ++ second)
    (λ x. ((cover_append networks others x).1, (cover_append networks others x).0))
    (AreMaximalBlocks-append (IsCoveredBy networks) (IsCoveredBy others) 0 apart first second h k)

-- every network of the list is of the family
abbrev AreOfFamily : Family → List Network → Type 0
AreOfFamily f networks = All (λ n. n.family ≡ f) networks

-- networks of one family cover only addresses of this family
covered_family : (f : Family) (networks : List Network) → AreOfFamily f networks → (x : Address)
    → IsCoveredBy networks x → x.family ≡ f
covered_family f networks all x a =
    a.4.same_family ∙ all_at (λ n. n.family ≡ f) networks all a.1 (covering_member networks x a)

-- what IPv4 networks cover and what IPv6 networks cover is separated
AreSeparated-families : (ipv4 ipv6 : List Network) → AreOfFamily IPv4 ipv4 → AreOfFamily IPv6 ipv6
    → AreSeparated (IsCoveredBy ipv4) (IsCoveredBy ipv6)
AreSeparated-families ipv4 ipv6 of4 of6 = record {
  before = λ x y a b.
      inl (omega (
        arith,
        ap family_index (covered_family IPv4 ipv4 of4 x a),
        ap family_index (covered_family IPv6 ipv6 of6 y b),
      ));
  gap = λ x y a b same.
      let clash : IPv4 ≡ IPv6 = sym (covered_family IPv4 ipv4 of4 x a) ∙ same ∙ covered_family IPv6 ipv6 of6 y b in
      absurd (cc);
}

-- the aggregate of the IPv4 networks, then the aggregate of the IPv6 networks, is the aggregate of all
pub aggregate_of_families : (ipv4 ipv6 blocks4 blocks6 : List Network) → AreOfFamily IPv4 ipv4 → AreOfFamily IPv6 ipv6
    → IsAggregateOf blocks4 ipv4 → IsAggregateOf blocks6 ipv6 → IsAggregateOf (blocks4 ++ blocks6) (ipv4 ++ ipv6)
aggregate_of_families ipv4 ipv6 blocks4 blocks6 of4 of6 h k =
    IsAggregateOf-append ipv4 ipv6 blocks4 blocks6 (AreSeparated-families ipv4 ipv6 of4 of6) h k
