-- The smallest network around the first and the last network of a table is around all of them.
use Rattle.std.proofs.Common.{◌≡◌, ◌+◌, ◌<◌, ◌≤◌, List, length, Contains, sym, ap, ◌∙◌}
use Rattle.std.proofs.Common.{arith, inl, inr}
use Rattle.std.proofs.lemmas.Bool.{cases_lt, cases_order}
use Rattle.ipnet_base.specs.Address.{family_index}
use Rattle.ipnet_base.specs.Network.{Network, IsNetwork, InBlock, IsSubnetOf, IsBefore}
use Rattle.ipnet_base.specs.Stack.{IsBeforeOrEqual}
use Rattle.ipnet_base.proofs.BlockLaws.{own, own_in, block_between}
use Rattle.ipnet_base.proofs.ListLaws.{pair_at, one_place}
use Rattle.ipnet_base.proofs.NestingLaws.{longer_from_subnet}
use Rattle.ipnet_sets.specs.CommonSupernets.{IsCommonSupernet}
use Rattle.ipnet_fewest.specs.Solved.{AreTableIn, IsAroundAll}
use Rattle.ipnet_fewest.proofs.InsideLaws.{nested_by_len}

module _ (around s f l : Network) (networks : List Network) (u : IsNetwork around)
    (valid : (n : Network) → Contains networks n → IsNetwork n) (h : AreTableIn around networks)
    (at_f : Contains networks f) (is_first : at_f.0 ≡ 0) (at_l : Contains networks l)
    (is_last : at_l.0 + 1 ≡ length networks) (common : IsCommonSupernet f l s) where
  in_around : IsSubnetOf s around
  in_around = common.smallest around u (h.within f at_f) (h.within l at_l)

  -- the first network does not come after the others, and the last not before them
  from_first : (n : Network) → Contains networks n → IsBeforeOrEqual f n
  from_first n c = elim (cases_order at_f.0 c.0) [
    | inl e ↦ inl (one_place networks f n at_f c e)
    | inr (inl lt) ↦ inr (pair_at IsBefore networks h.ascending f n at_f c lt)
    | inr (inr gt) ↦ absurd (omega (arith, gt, is_first))
  ]

  to_last : (n : Network) → Contains networks n → IsBeforeOrEqual n l
  to_last n c = elim (cases_order c.0 at_l.0) [
    | inl e ↦ inl (one_place networks n l c at_l e)
    | inr (inl lt) ↦ inr (pair_at IsBefore networks h.ascending n l c at_l lt)
    | inr (inr gt) ↦ absurd (omega (arith, gt, is_last, c.1))
  ]

  family : (n : Network) → Contains networks n → n.family ≡ around.family
  family n c = (h.within n c (own n) (own_in n)).same_family

  number_order : (n k : Network) → n.family ≡ k.family → IsBeforeOrEqual n k → n.number ≤ k.number
  number_order n k e (inl same) = omega (arith, ap (λ (z : Network). z.number) same)
  number_order n k e (inr (inl lt)) = absurd (omega (arith, lt, ap family_index e))
  number_order n k e (inr (inr (f, inl lt))) = omega (arith, lt)
  number_order n k e (inr (inr (f, inr (same, lt)))) = omega (arith, same)

  own_in_s : (n : Network) → Contains networks n → InBlock s (own n)
  own_in_s n c =
      let first : InBlock s (own f) = common.first (own f) (own_in f) in
      let last : InBlock s (own l) = common.second (own l) (own_in l) in
      block_between s (own l) (own n) last
      (family n c ∙ sym (family f at_f) ∙ first.same_family)
      (omega (
        arith,
        common.truncated (own f) first,
        number_order f n (family f at_f ∙ sym (family n c)) (from_first n c),
      ))
      (number_order n l (family n c ∙ sym (family l at_l)) (to_last n c))

  -- a network that is shorter than the common one begins with the first one
  not_shorter : (n : Network) → Contains networks n → n.prefix_len < s.prefix_len → ⊥
  not_shorter n c lt = go (from_first n c)
    where
      holds : IsSubnetOf s n
      holds = nested_by_len s n (own n) (own_in_s n c) (own_in n) (omega (arith, lt))

      starts : n.number ≤ f.number
      starts = h.truncated n c (own f) (holds (own f) (common.first (own f) (own_in f)))

      len : s.prefix_len ≤ f.prefix_len
      len = longer_from_subnet f s (valid f at_f) common.network common.first

      go : IsBeforeOrEqual f n → ⊥
      go (inl e) = omega (arith, lt, len, ap (λ (z : Network). z.prefix_len) e)
      go (inr (inl less)) = omega (arith, less, ap family_index (family f at_f ∙ sym (family n c)))
      go (inr (inr (e, inl less))) = omega (arith, less, starts)
      go (inr (inr (e, inr (same, less)))) = omega (arith, less, lt, len)

  pub around_all : IsAroundAll networks around s
  around_all = record {
    network = common.network;
    truncated = common.truncated;
    within = in_around;
    holds = λ n c. elim (cases_lt n.prefix_len s.prefix_len) [
      | inl lt ↦ absurd (not_shorter n c lt)
      | inr le ↦ nested_by_len n s (own n) (own_in n) (own_in_s n c) le
    ];
  }
