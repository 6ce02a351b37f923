-- A block that is split: the rest of it, without a part, one half after the other.
use Rattle.std.proofs.Common.{◌≡◌, ◌-◌, ◌/◌, ◌^◌, ◌<◌, ◌≤◌, ◌⊎◌, ◌↔◌, List, Contains, refl, sym, ap, ◌∙◌, subst, arith}
use Rattle.std.proofs.Common.{inl, inr}
use Rattle.ipnet_base.specs.Address.{Address, width}
use Rattle.ipnet_base.specs.Network.{Network, IsNetwork, InBlock, IsSubnetOf, IsTruncated, IsSupernetOf}
use Rattle.ipnet_base.specs.Network.{AreHalves, IsGreatestOf, IsTruncationOf, host_bits}
use Rattle.ipnet_base.specs.Blocks.{IsMaximal}
use Rattle.ipnet_base.proofs.BlockLaws.{own, own_in}
use Rattle.ipnet_base.proofs.NestingLaws.{nested, subnet_from_own}
use Rattle.ipnet_base.proofs.SupernetLaws.{supernet_below, supernet_to_halves, halves_to_supernet, halves_apart}
use Rattle.ipnet_base.proofs.SupernetLaws.{supernet_bits, other_half_exists}
use Rattle.ipnet_pools.specs.Fits.{Without}
use Rattle.ipnet_pools.specs.Pieces.{HaveSameNetworks, IsPartOf, HasNoPieces, IsSplit}
use Rattle.ipnet_pools.proofs.FitLaws.{with_len, start_in}
use Rattle.ipnet_pools.proofs.TouchLaws.{convex}
use Rattle.ipnet_pools.proofs.PartLaws.{IsParted, parted_half, parted_maximal, block_maximal}

-- the halves have one supernet
pub half_below : (s n h : Network) → IsNetwork n → IsSupernetOf s n → AreHalves n h → IsSupernetOf s h
half_below s n h u above halves = record {
  network = above.network;
  truncated = above.truncated;
  shorter = above.shorter ∙ halves.siblings.same_len;
  contains = λ x a. halves_to_supernet s n h u above halves x (inr a);
}

module _ (s n : Network) (u : IsNetwork n) (above : IsSupernetOf s n) where
  in_s : InBlock s (own n)
  in_s = above.contains (own n) (own_in n)

  len_le : s.prefix_len ≤ n.prefix_len
  len_le = omega (arith, above.shorter)

  -- a network of the same length in the supernet is the other half, if its prefix differs
  halves_from : (l : Network) → l.prefix_len ≡ n.prefix_len → InBlock s (own l)
      → ¬ (n.number / 2 ^ host_bits n ≡ l.number / 2 ^ host_bits n) → AreHalves n l
  halves_from l len a other = record {
    siblings = record {
      same_family = in_s.same_family ∙ sym a.same_family;
      same_len = sym len;
      has_supernet = omega (arith, above.shorter);
      same_supernet = subst (λ b. n.number / 2 ^ b ≡ l.number / 2 ^ b) (supernet_bits s n u above)
          (in_s.same_prefix ∙ sym a.same_prefix);
    };
    differ = other;
  }

  abbrev first : Network
  first = with_len s n.prefix_len

  first_bits : host_bits first ≡ host_bits n
  first_bits = ap (λ f. width f - n.prefix_len) (sym in_s.same_family)

  pub first_truncated : (f : Network) → f ≡ with_len s n.prefix_len → IsTruncated f
  first_truncated f is = subst IsTruncated (sym is) (λ x a. above.truncated x (start_in s n.prefix_len len_le x a))

  pub first_is_half : (f : Network) → f ≡ with_len s n.prefix_len → ¬ (IsSubnetOf n f) → AreHalves n f
  first_is_half f is other = subst (AreHalves n) (sym is) (halves_from first refl
      (start_in s n.prefix_len len_le (own first) (own_in first)) (λ e. other (subst (IsSubnetOf n) (sym is)
      (nested n first (own n) (own_in n) (record {
        same_family = in_s.same_family;
        same_prefix = subst (λ b. n.number / 2 ^ b ≡ s.number / 2 ^ b) (sym first_bits) e;
      }) (omega (arith, first_bits))))))

  module _ (f l : Network) (z : Address) (is : f ≡ with_len s n.prefix_len) (sub : IsSubnetOf n f)
      (greatest : IsGreatestOf s z) (long : Network)
      (at : long ≡ record { family = z.family; number = z.number; prefix_len = n.prefix_len })
      (trunc : IsTruncationOf l long) where
    abbrev last : Network
    last = record { family = z.family; number = z.number; prefix_len = n.prefix_len }

    of_last : IsTruncationOf l last
    of_last = subst (IsTruncationOf l) at trunc

    last_in : IsSubnetOf last s
    last_in = subnet_from_own last s len_le greatest.inside

    z_in : InBlock l z
    z_in = of_last.same_block.1 z (own_in last)

    l_family : l.family ≡ n.family
    l_family = sym z_in.same_family ∙ greatest.inside.same_family ∙ sym in_s.same_family

    l_bits : host_bits l ≡ host_bits n
    l_bits = omega (arith, ap width l_family, of_last.same_len)

    no_prefix : ¬ (n.number / 2 ^ host_bits n ≡ l.number / 2 ^ host_bits n)
    no_prefix e =
        let own_l : InBlock l (own n) = record {
          same_family = sym l_family;
          same_prefix = subst (λ b. n.number / 2 ^ b ≡ l.number / 2 ^ b) (sym l_bits) e;
        } in
        let z_n : InBlock n z = nested l n (own n) own_l (own_in n) (omega (arith, l_bits)) z z_in in
        let sub_first : IsSubnetOf n first = subst (IsSubnetOf n) is sub in
        let (k, v, halves) = other_half_exists n u (omega (arith, above.shorter)) in
        let k_s : InBlock s (own k) = halves_to_supernet s n k u above halves (own k) (inr (own_in k)) in
        let k_first : InBlock first (own k) = convex first (own first) z (own k) (own_in first) (sub_first z z_n)
        k_s.same_family (above.truncated (own k) k_s) (greatest.greatest (own k) k_s) in
        halves_apart n k halves (own k)
        (nested first n (own n) (sub_first (own n) (own_in n)) (own_in n) (omega (arith, first_bits)) (own k) k_first)
        (own_in k)

    pub last_is_half : AreHalves n l
    last_is_half = halves_from l of_last.same_len (last_in (own l) (of_last.same_block.0 (own l) (own_in l))) no_prefix

module _ (part block : Network) (u : IsNetwork part) (v : IsNetwork block) (p : IsPartOf part block) where
  -- nothing is left of a block without all of it
  pub split_whole : (old : List Network) → part.prefix_len ≤ block.prefix_len → IsSplit old old part block
  split_whole old le m = (
    λ c. inl c,
    λ h. elim h [
      | inl c ↦ c
      | inr max ↦
          let family = (p.within (own part) (own_in part)).same_family in
          let all : IsSubnetOf block part =
          nested block part (own part) (p.within (own part) (own_in part)) (own_in part)
          (omega (arith, ap width family, le)) in
          let rest = max.inside.within (own m) (own_in m) in
          absurd (rest.1 (all (own m) rest.0))
    ],
  )

  module _ (s h : Network) (above : IsSupernetOf s part) (w : IsNetwork h) (t : IsTruncated h)
      (halves : AreHalves part h)
      (lt : block.prefix_len < part.prefix_len) where
    pub supernet_part : IsPartOf s block
    supernet_part = record {
      within = supernet_below s part block u above p.within
          (omega (arith, lt, u.prefix_fits, v.prefix_fits, ap width (p.within (own part) (own_in part)).same_family));
      truncated = above.truncated;
      whole = p.whole;
    }

    half_within : IsSubnetOf h block
    half_within x a = supernet_part.within x (halves_to_supernet s part h u above halves x (inr a))

    step : (m : Network)
        → IsMaximal (Without (InBlock block) part) 0 m
        ↔ (IsMaximal (Without (InBlock block) s) 0 m ⊎ (m ≡ h))
    step m =
        let parted : IsParted (Without (InBlock block) part) (Without (InBlock block) s) (InBlock h) =
        parted_half (InBlock block) part s h above w (half_below s part h u above halves) t
        (λ x a. supernet_to_halves s part h u above halves x a) (halves_apart part h halves) supernet_part.within in
        let cases = parted_maximal (Without (InBlock block) part) (Without (InBlock block) s) (InBlock h) parted m in
        let one = block_maximal h w t m in (
          λ max. elim (cases.0 max) [ inl a ↦ inl a | inr b ↦ inr (one.0 b) ],
          λ or. cases.1 (elim or [ inl a ↦ inl a | inr b ↦ inr (one.1 b) ]),
        )

    module _ (old mid : List Network)
        (added : (m : Network) → Contains mid m ↔ (Contains old m ⊎ (m ≡ h))) where
      pub supernet_none : HasNoPieces old part block → HasNoPieces mid s block
      supernet_none none m c sub le = elim ((added m).0 c) [
        | inl d ↦ none m d sub (omega (arith, le, above.shorter))
        | inr e ↦
            absurd (omega (arith, le, above.shorter, ap (λ z. z.prefix_len) e, halves.siblings.same_len))
      ]

      pub split_more : (new : List Network) → IsSplit mid new s block → IsSplit old new part block
      split_more new split m = (
        λ c. elim ((split m).0 c) [
          | inl d ↦ elim ((added m).0 d) [ inl e ↦ inl e | inr e ↦ inr ((step m).1 (inr e)) ]
          | inr max ↦ inr ((step m).1 (inl max))
        ],
        λ or. (split m).1 (elim or [
          | inl d ↦ inl ((added m).1 (inl d))
          | inr max ↦ elim ((step m).0 max) [ inl a ↦ inr a | inr e ↦ inl ((added m).1 (inr e)) ]
        ]),
      )

      -- if the rest fails, the half is removed again
      pub split_undone : (kept new : List Network) → HasNoPieces old part block → HaveSameNetworks mid kept
          → ((m : Network) → Contains new m ↔ (Contains kept m × ¬ (m ≡ h))) → HaveSameNetworks old new
      split_undone kept new none same removed m = (
        λ c.
            let (d, other) = (removed m).0 c in
            elim ((added m).0 ((same m).0 d)) [ inl e ↦ e | inr e ↦ absurd (other e) ],
        λ c. (removed m).1 (
          (same m).1 ((added m).1 (inl c)),
          λ e.
              let is : h ≡ block = none h (subst (Contains old) e c) half_within
              (omega (arith, halves.siblings.same_len)) in
              absurd (omega (arith, lt, halves.siblings.same_len, ap (λ z. z.prefix_len) is)),
        ),
      )
