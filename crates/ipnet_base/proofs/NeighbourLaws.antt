-- The neighbour lemma: truncated networks, each ending before the next, of which no two neighbours are the
-- halves of one supernet, are all the maximal blocks of what they cover. And back: such blocks show the four conditions
-- on neighbours.
use Rattle.std.proofs.Common.{◌≡◌, ℕ, zero, suc, ◌+◌, ◌*◌, ◌/◌, ◌^◌, ◌<◌, ◌≤◌, List, length, get_or, Contains, All}
use Rattle.std.proofs.Common.{AllPairs, refl, sym, ap, ap₂, ◌∙◌, subst, arith, inl, inr, add-one, mul-one, pow_pos}
use Rattle.std.proofs.Common.{pow-add, shr-shr, ◌↔◌}
use Rattle.std.proofs.lemmas.Bool.{cases_lt, cases_order}
use Rattle.std.proofs.lemmas.Nat.{div-mul-add, pow_below}
use Rattle.std.proofs.Math.Nat.{mul-div_cancel, div-one}
use Rattle.ipnet_base.specs.Address.{Family, Address, width, family_index}
use Rattle.ipnet_base.specs.Network.{Network, IsNetwork, host_bits, InBlock, IsSubnetOf, IsTruncated, AreHalves}
use Rattle.ipnet_base.specs.Network.{IsBefore, first_of, last_of, IsSupernetOf}
use Rattle.ipnet_base.specs.Blocks.{IsCoveredBy, IsInside, IsMaximal, AreMaximalBlocks, IsAggregateOf}
use Rattle.ipnet_base.specs.Blocks.{AreAggregatedNeighbours}
use Rattle.ipnet_base.specs.Stack.{LiesBefore, AreJoined}
use Rattle.ipnet_base.proofs.PrefixLaws.{coarser}
use Rattle.ipnet_base.proofs.BlockLaws.{at, own, own_in, first_in, between_from_block, block_from_between, own_to_last}
use Rattle.ipnet_base.proofs.NetworkLaws.{number_from_truncated, same_len_from_bits, same_from_block}
use Rattle.ipnet_base.proofs.NestingLaws.{nested}
use Rattle.ipnet_base.proofs.ListLaws.{at_place, pair_at, one_place, adjacent_at, pairs_weaker, any_from_contains}
use Rattle.ipnet_base.proofs.ListLaws.{all_at, all_from_members, adjacent_from_pairs, pairs_from_members}
use Rattle.ipnet_base.proofs.SupernetLaws.{supernet_to_halves, supernet, IsSupernetOf-supernet}
use Rattle.ipnet_base.proofs.OrderLaws.{IsBefore-asymmetric}
use Rattle.ipnet_base.proofs.MaximalLaws.{one_maximal}
use Rattle.ipnet_base.proofs.FamilyLaws.{same_family_from_index}
use Rattle.ipnet_base.proofs.EndLaws.{EndsBelow, ends_by_numbers, ends_before_all, before_from_ends, one_member}

-- no block lies between blocks that touch
none_between : (f g h last_n mid last_mid number : ℕ) → f ≡ h → number ≡ last_n + 1 → mid ≤ last_mid
    → EndsBelow f g last_n mid → EndsBelow g h last_mid number → ⊥
none_between f g h last_n mid last_mid number e t m p q = omega arith

-- members whose blocks touch are neighbours
touching : (networks : List Network) → AllPairs LiesBefore networks
    → (n k : Network) (c : Contains networks n) (e : Contains networks k)
    → n.family ≡ k.family → k.number ≡ last_of n + 1 → c.0 + 1 ≡ e.0
touching networks ends n k c e f t =
    elim (cases_order (c.0 + 1) e.0) [
      | inl same ↦ same
      | inr (inl lt) ↦ absurd (between lt)
      | inr (inr gt) ↦ absurd (elim (cases_order c.0 e.0) [
        | inl same ↦ omega (arith, t, own_to_last n, ap (λ m. m.number) (one_place networks n k c e same))
        | inr (inl lt) ↦ omega (arith, lt, gt)
        | inr (inr later) ↦ wrong_way (ends_by_numbers k n (pair_at LiesBefore networks ends k n e c later))
      ])
    ]
  where
    wrong_way : EndsBelow (family_index k.family) (family_index n.family) (last_of k) n.number → ⊥
    wrong_way h = omega (arith, h, t, own_to_last n, own_to_last k, ap family_index f)

    between : c.0 + 1 < e.0 → ⊥
    between lt =
        let inside : c.0 + 1 < length networks = omega (arith, lt, e.1) in
        let mid : Network = get_or networks (c.0 + 1) n in
        let m : Contains networks mid = (c.0 + 1, inside, at_place networks (c.0 + 1) mid n inside) in
        none_between (family_index n.family) (family_index mid.family) (family_index k.family) (last_of n) mid.number
        (last_of mid) k.number
        (ap family_index f) t (own_to_last mid)
        (ends_by_numbers n mid (pair_at LiesBefore networks ends n mid c m (omega arith)))
        (ends_by_numbers mid k (pair_at LiesBefore networks ends mid k m e lt))

-- the numbers that begin with the bits c, and then have any k low bits, lie in the block of one member
abbrev LiesInOne : List Network → Family → ℕ → ℕ → Type 0
LiesInOne networks family k c = (n : Network) × Contains networks n × (n.family ≡ family) × (k ≤ host_bits n)
    × ((c * 2 ^ k) / 2 ^ host_bits n ≡ n.number / 2 ^ host_bits n)

-- the addresses with those leading bits are covered
abbrev IsCovered : List Network → Family → ℕ → ℕ → Type 0
IsCovered networks family k c = (x : Address) → x.family ≡ family → x.number / 2 ^ k ≡ c → IsCoveredBy networks x

-- numbers with k low bits and one more: c begins both halves, 2 * c and 2 * c + 1
double : (c k : ℕ) → (2 * c) * 2 ^ k ≡ c * 2 ^ (k + 1)
double c k = omega (arith, ap (λ z. c * z) (pow-add 2 k 1))

upper_half : (c k : ℕ) → (2 * c + 1) * 2 ^ k ≡ c * 2 ^ (k + 1) + 2 ^ k
upper_half c k = omega (arith, ap (λ z. c * z) (pow-add 2 k 1))

begins : (c k : ℕ) → (c * 2 ^ k) / 2 ^ k ≡ c
begins c k = mul-div_cancel c (pow_pos k)

both_begin : (c k : ℕ) → (c * 2 ^ (k + 1)) / 2 ^ (k + 1) ≡ ((2 * c + 1) * 2 ^ k) / 2 ^ (k + 1)
both_begin c k =
    begins c (k + 1)
    ∙ sym (div-mul-add c (2 ^ (k + 1)) (2 ^ k) (pow_below k (k + 1) (omega arith)))
    ∙ ap (λ z. z / 2 ^ (k + 1)) (sym (upper_half c k))

-- Networks that show the conditions on neighbours.
module _ (networks : List Network) (valid : All IsNetwork networks) (joined : AreJoined networks) where
  -- two members with k open bits, one for each half, would be halves of one supernet, and neighbours
  no_halves : (family : Family) (k c : ℕ) → k + 1 ≤ width family
      → (n l : Network) → Contains networks n → Contains networks l → n.family ≡ family → l.family ≡ family
      → host_bits n ≡ k → host_bits l ≡ k → n.number / 2 ^ host_bits n ≡ 2 * c → l.number / 2 ^ host_bits l ≡ 2 * c + 1
      → ⊥
  no_halves family k c le n l in_n in_l fn fl bn bl qn ql =
      adjacent_at (λ x y. ¬ (AreHalves x y)) networks joined.unjoined n l in_n in_l
      (touching networks (ends_before_all networks joined) n l in_n in_l (fn ∙ sym fl) touch)
      halves
    where
      sizes : 2 ^ host_bits n ≡ 2 ^ host_bits l
      sizes = ap (λ m. 2 ^ m) (bn ∙ sym bl)

      first_n : first_of n ≡ (2 * c) * 2 ^ host_bits l
      first_n = ap₂ ◌*◌ qn sizes

      number_l : l.number ≡ (2 * c + 1) * 2 ^ host_bits l
      number_l = number_from_truncated l (all_at IsTruncated networks joined.truncated l in_l) ∙ ap
          (λ q. q * 2 ^ host_bits l) ql

      touch : l.number ≡ last_of n + 1
      touch = omega (arith, first_n, number_l, sizes, pow_pos (host_bits n))

      ql' : l.number / 2 ^ host_bits n ≡ 2 * c + 1
      ql' = ap (λ m. l.number / m) sizes ∙ ql

      halves : AreHalves n l
      halves = record {
        siblings = record {
          same_family = fn ∙ sym fl;
          same_len = same_len_from_bits n l (all_at IsNetwork networks valid n in_n)
              (all_at IsNetwork networks valid l in_l) (fn ∙ sym fl) (bn ∙ sym bl);
          has_supernet = omega (arith, le, bn, ap width fn);
          same_supernet =
              sym (shr-shr n.number (host_bits n) 1) ∙ ap (λ q. q / 2) qn
              ∙ omega arith
              ∙ sym (ap (λ q. q / 2) ql') ∙ shr-shr l.number (host_bits n) 1;
        };
        differ = λ e. omega (arith, e, qn, ql');
      }

  lies_step : (family : Family) (k c : ℕ) → k + 1 ≤ width family
      → LiesInOne networks family k (2 * c) → LiesInOne networks family k (2 * c + 1)
      → LiesInOne networks family (k + 1) c
  lies_step family k c le (n, in_n, fn, bn, en) (l, in_l, fl, bl, el) =
      elim (cases_lt k (host_bits n)) [
        | inl more ↦ (n, in_n, fn, omega (arith, more), ap (λ z. z / 2 ^ host_bits n) (sym (double c k)) ∙ en)
        | inr no_more ↦ elim (cases_lt k (host_bits l)) [
          | inl more ↦ (
            l,
            in_l,
            fl,
            omega (arith, more),
            coarser (k + 1) (host_bits l) (c * 2 ^ (k + 1)) ((2 * c + 1) * 2 ^ k) (omega (arith, more)) (both_begin c k)
                ∙ el,
          )
          | inr nor_more ↦
              let hn : host_bits n ≡ k = omega (arith, bn, no_more) in
              let hl : host_bits l ≡ k = omega (arith, bl, nor_more) in
              absurd (no_halves family k c le n l in_n in_l fn fl hn hl
              (sym en ∙ ap (λ m. ((2 * c) * 2 ^ k) / 2 ^ m) hn ∙ begins (2 * c) k)
              (sym el ∙ ap (λ m. ((2 * c + 1) * 2 ^ k) / 2 ^ m) hl ∙ begins (2 * c + 1) k))
        ]
      ]

  lies_in_one : (family : Family) (k c : ℕ) → k ≤ width family → IsCovered networks family k c
      → LiesInOne networks family k c
  lies_in_one family zero c le cover =
      let x : Address = record { family = family; number = c } in
      let w : IsCoveredBy networks x = cover x refl (div-one c) in
      (w.1, (w.0, w.2, w.3), sym w.4.same_family, omega arith, rw mul-one w.4.same_prefix)
  lies_in_one family (suc k) c le cover =
      subst (λ m. LiesInOne networks family m c) (add-one k)
      (lies_step family k c (omega arith)
      (lies_in_one family k (2 * c) (omega arith)
      (λ x f e. cover x f (half x.number (2 * c) e (omega arith))))
      (lies_in_one family k (2 * c + 1) (omega arith)
      (λ x f e. cover x f (half x.number (2 * c + 1) e (omega arith)))))
    where
      half : (y q : ℕ) → y / 2 ^ k ≡ q → q / 2 ≡ c → y / 2 ^ suc k ≡ c
      half y q e h = subst (λ m. y / 2 ^ m ≡ c) (add-one k) (sym (shr-shr y k 1) ∙ ap (λ z. z / 2) e ∙ h)

  -- a truncated network whose block is covered lies in one member
  subnet_of_one : (k : Network) → ((x : Address) → InBlock k x → IsCoveredBy networks x)
      → (n : Network) × Contains networks n
      × IsSubnetOf k n
  subnet_of_one k covered =
      let found : LiesInOne networks k.family (host_bits k) (k.number / 2 ^ host_bits k) =
      lies_in_one k.family (host_bits k) (k.number / 2 ^ host_bits k) (omega arith)
      (λ x f e. covered x (record { same_family = f; same_prefix = e })) in (
        found.0,
        found.1,
        nested k found.0 (at k (first_of k)) (first_in k)
            (record { same_family = sym found.2; same_prefix = found.4 }) found.3,
      )

  -- so the networks are all the maximal blocks of their cover
  pub AreMaximalBlocks-from_neighbours : AreMaximalBlocks (IsCoveredBy networks) 0 networks
  AreMaximalBlocks-from_neighbours = record {
    ascending = pairs_weaker LiesBefore IsBefore before_from_ends networks ends;
    members = λ n. (member_is_maximal n, maximal_is_member n);
  }
    where
      ends : AllPairs LiesBefore networks
      ends = ends_before_all networks joined

      member_is_inside : (n : Network) → Contains networks n → IsInside (IsCoveredBy networks) 0 n
      member_is_inside n c = record {
        network = all_at IsNetwork networks valid n c;
        truncated = all_at IsTruncated networks joined.truncated n c;
        long_enough = omega arith;
        within = λ x a. any_from_contains (λ m. InBlock m x) networks n c a;
      }

      member_is_maximal : (n : Network) → Contains networks n → IsMaximal (IsCoveredBy networks) 0 n
      member_is_maximal n c = record {
        inside = member_is_inside n c;
        largest = λ k i s.
            let (m, in_m, k_in_m) = subnet_of_one k i.within in
            let one : m ≡ n = one_member networks joined.truncated ends m n in_m c (own n)
            (k_in_m (own n) (s (own n) (own_in n))) (own_in n) in
            same_from_block k n i.network (member_is_inside n c).network i.truncated (member_is_inside n c).truncated
            (subst (λ z. IsSubnetOf k z) one k_in_m, s);
      }

      maximal_is_member : (n : Network) → IsMaximal (IsCoveredBy networks) 0 n → Contains networks n
      maximal_is_member n h =
          let (m, in_m, n_in_m) = subnet_of_one n h.inside.within in
          subst (Contains networks) (h.largest m (member_is_inside m in_m) n_in_m) in_m

-- if one maximal network is before another in the order, it ends before the other begins
pub lies_before_from_maximal : (InSet : Address → Type 0) (least : ℕ) (n k : Network) → IsMaximal InSet least n
    → IsMaximal InSet least k → IsBefore n k → LiesBefore n k
lies_before_from_maximal InSet least n k p q (inl lt) = inl lt
lies_before_from_maximal InSet least n k p q (inr (f, order)) = inr (
  f,
  λ x a. elim (cases_lt x.number k.number) [
    | inl lt ↦ lt
    | inr ge ↦
        let last : x.number ≤ last_of n = (between_from_block n x a).to_end in
        let start : n.number ≡ first_of n = number_from_truncated n p.inside.truncated in
        let inside : InBlock n (own k) =
        block_from_between n (own k)
        (record {
          of_family = sym f;
          from_start = omega (arith, start, order);
          to_end =
              omega (arith, last, ge);
        }) in
        let one : n ≡ k = one_maximal InSet least n k p q (own k) inside (own_in k) in
        absurd (IsBefore-asymmetric n n (subst (IsBefore n) (sym one) (inr (f, order)))
        (subst (IsBefore n) (sym one) (inr (f, order))))
  ],
)

-- A list that is the blocks of its own cover shows the four conditions on neighbours.
pub neighbours_from_blocks : (networks : List Network) → AreMaximalBlocks (IsCoveredBy networks) 0 networks
    → AreJoined networks
neighbours_from_blocks networks h = record {
  truncated = all_from_members IsTruncated networks (λ n c. ((h.members n).0 c).inside.truncated);
  apart = adjacent_from_pairs LiesBefore networks
      (pairs_from_members IsBefore LiesBefore networks
      (λ n k c e b. lies_before_from_maximal (IsCoveredBy networks) 0 n k ((h.members n).0 c) ((h.members k).0 e) b)
      h.ascending);
  unjoined = adjacent_from_pairs (λ n k. ¬ (AreHalves n k)) networks
      (pairs_from_members IsBefore (λ n k. ¬ (AreHalves n k)) networks (λ n k c e b. unjoined n k c e) h.ascending);
}
  where
    unjoined : (n k : Network) → Contains networks n → Contains networks k → ¬ (AreHalves n k)
    unjoined n k c e halves =
        let p : IsMaximal (IsCoveredBy networks) 0 n = (h.members n).0 c in
        let s : IsSupernetOf (supernet n) n = IsSupernetOf-supernet n p.inside.network halves.siblings.has_supernet in
        let covered : (x : Address) → InBlock (supernet n) x → IsCoveredBy networks x = λ x a.
        elim (supernet_to_halves (supernet n) n k p.inside.network s halves x a) [
          | inl b ↦ any_from_contains (λ m. InBlock m x) networks n c b
          | inr b ↦ any_from_contains (λ m. InBlock m x) networks k e b
        ] in
        let one : supernet n ≡ n = p.largest (supernet n)
        (record { network = s.network; truncated = s.truncated; long_enough = omega arith; within = covered })
        s.contains in
        absurd (omega (arith, ap (λ m. m.prefix_len) one, halves.siblings.has_supernet))

-- the four conditions are the three that lemmas take
pub AreJoined-from_neighbours : (networks : List Network) → AreAggregatedNeighbours networks → AreJoined networks
AreJoined-from_neighbours networks h = record {
  truncated = h.truncated;
  apart = λ k d l. lies (get_or networks k d) (get_or networks (k + 1) d) (h.ipv4_first k d l) (h.apart k d l);
  unjoined = h.unjoined;
}
  where
    lies : (n k : Network) → family_index n.family ≤ family_index k.family
        → (n.family ≡ k.family → (x : Address) → InBlock n x → x.number < k.number) → LiesBefore n k
    lies n k le apart = elim (cases_lt (family_index n.family) (family_index k.family)) [
      | inl lt ↦ inl lt
      | inr ge ↦ let same : n.family ≡ k.family = same_family_from_index n.family k.family (omega (arith, le, ge)) in
          inr (same, apart same)
    ]

pub AreAggregatedNeighbours-from_joined : (networks : List Network) → AreJoined networks
    → AreAggregatedNeighbours networks
AreAggregatedNeighbours-from_joined networks h = record {
  truncated = h.truncated;
  ipv4_first = λ k d l. in_order (get_or networks k d) (get_or networks (k + 1) d) (h.apart k d l);
  apart = λ k d l. apart (get_or networks k d) (get_or networks (k + 1) d) (h.apart k d l);
  unjoined = h.unjoined;
}
  where
    in_order : (n k : Network) → LiesBefore n k → family_index n.family ≤ family_index k.family
    in_order n k (inl lt) = omega (arith, lt)
    in_order n k (inr h) = omega (arith, ap family_index h.0)

    apart : (n k : Network) → LiesBefore n k → n.family ≡ k.family → (x : Address) → InBlock n x → x.number < k.number
    apart n k (inl lt) same = absurd (omega (arith, lt, ap family_index same))
    apart n k (inr h) same = h.1

-- a list meets the four conditions if and only if it is its own aggregate
pub neighbours_iff_own_aggregate : (networks : List Network) → All IsNetwork networks
    → AreAggregatedNeighbours networks ↔ IsAggregateOf networks networks
neighbours_iff_own_aggregate networks valid = (
  λ h. AreMaximalBlocks-from_neighbours networks valid (AreJoined-from_neighbours networks h),
  λ h. AreAggregatedNeighbours-from_joined networks (neighbours_from_blocks networks h),
)
