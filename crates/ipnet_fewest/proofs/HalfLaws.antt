-- The two halves of a network.
use Rattle.std.proofs.Common.{◌≡◌, ℕ, ◌+◌, ◌/◌, ◌^◌, ◌<◌, sym, ap, ◌∙◌, subst, arith, inl, inr}
use Rattle.std.proofs.lemmas.Bool.{cases_lt}
use Rattle.ipnet_base.specs.Address.{Address, width}
use Rattle.ipnet_base.specs.Network.{Network, IsNetwork, InBlock, IsSubnetOf, IsTruncated, IsTruncationOf, host_bits}
use Rattle.ipnet_base.specs.Network.{IsLeastOf, IsGreatestOf, AreHalves, IsSupernetOf}
use Rattle.ipnet_base.proofs.BlockLaws.{own, own_in, prefix_at, block_between}
use Rattle.ipnet_base.proofs.NestingLaws.{subnet_from_own, bits_from_subnet}
use Rattle.ipnet_base.proofs.SupernetLaws.{supernet_to_halves}
use Rattle.ipnet_fewest.specs.Solved.{AreHalvesOf}
use Rattle.ipnet_fewest.proofs.InsideLaws.{nested_by_len}

module _ (around l r long_l long_r : Network) (len : ℕ) (is_len : len ≡ around.prefix_len) (low high : Address)
    (u : IsNetwork around) (cut : IsTruncated around) (less : around.prefix_len < width around.family)
    (is_low : IsLeastOf around low) (is_high : IsGreatestOf around high)
    (of_l : long_l ≡ record { family = low.family; number = low.number; prefix_len = len + 1 })
    (of_r : long_r ≡ record { family = high.family; number = high.number; prefix_len = len + 1 })
    (cut_l : IsTruncationOf l long_l) (cut_r : IsTruncationOf r long_r) where
  abbrev wide_l : Network
  wide_l = record { family = low.family; number = low.number; prefix_len = around.prefix_len + 1 }

  abbrev wide_r : Network
  wide_r = record { family = high.family; number = high.number; prefix_len = around.prefix_len + 1 }

  tl : IsTruncationOf l wide_l
  tl = subst (IsTruncationOf l)
      (of_l ∙ ap (λ k. record { family = low.family; number = low.number; prefix_len = k + 1 }) is_len) cut_l

  tr : IsTruncationOf r wide_r
  tr = subst (IsTruncationOf r)
      (of_r ∙ ap (λ k. record { family = high.family; number = high.number; prefix_len = k + 1 }) is_len) cut_r

  len_l : around.prefix_len + 1 ≡ l.prefix_len
  len_l = sym tl.same_len

  len_r : around.prefix_len + 1 ≡ r.prefix_len
  len_r = sym tr.same_len

  in_l : IsSubnetOf l around
  in_l x a = subnet_from_own wide_l around (omega arith) is_low.inside x (tl.same_block.0 x a)

  in_r : IsSubnetOf r around
  in_r x a = subnet_from_own wide_r around (omega arith) is_high.inside x (tr.same_block.0 x a)

  low_in : InBlock l low
  low_in = tl.same_block.1 low (own_in wide_l)

  high_in : InBlock r high
  high_in = tr.same_block.1 high (own_in wide_r)

  family_l : l.family ≡ around.family
  family_l = (in_l (own l) (own_in l)).same_family

  family_r : r.family ≡ around.family
  family_r = (in_r (own r) (own_in r)).same_family

  bits_l : host_bits around ≡ host_bits l + 1
  bits_l = omega (arith, len_l, ap width family_l, less)

  bits_r : host_bits r ≡ host_bits l
  bits_r = omega (arith, len_l, len_r, ap width family_l, ap width family_r)

  -- the first half does not have the last address
  not_high : InBlock l high → ⊥
  not_high a = omega (
    arith,
    bits_l,
    bits_from_subnet around l (λ x b. block_between l high x a
        (b.same_family ∙ sym family_l) (omega (arith, tl.truncated low low_in, is_low.least x b))
        (is_high.greatest x b)),
  )

  apart : (x : Address) → InBlock l x → InBlock r x → ⊥
  apart x a b = not_high (nested_by_len r l x b a (omega (arith, len_l, len_r)) high high_in)

  above : (x : Address) → InBlock around x → x.number / 2 ^ (host_bits l + 1) ≡ around.number / 2 ^ (host_bits l + 1)
  above x a = prefix_at around x (host_bits l + 1) bits_l a

  are_halves : AreHalves l r
  are_halves = record {
    siblings = record {
      same_family = family_l ∙ sym family_r;
      same_len = sym len_l ∙ len_r;
      has_supernet = omega (arith, len_l);
      same_supernet = above (own l) (in_l (own l) (own_in l)) ∙ sym (above (own r) (in_r (own r) (own_in r)));
    };
    differ = λ e. apart (own r) (record {
      same_family = family_r ∙ sym family_l;
      same_prefix = sym e;
    }) (own_in r);
  }

  is_supernet : IsSupernetOf around l
  is_supernet = record { network = u; truncated = cut; shorter = len_l; contains = in_l }

  pub ordered : l.number < r.number
  ordered = elim (cases_lt l.number r.number) [
    | inl lt ↦ lt
    | inr le ↦ absurd (apart (own r) (block_between l (own l) (own r) (own_in l) (family_r ∙ sym family_l)
        (omega (arith, tl.truncated low low_in, is_low.least (own r) (in_r (own r) (own_in r)))) le) (own_in r))
  ]

  pub are_halves_of : AreHalvesOf l r around
  are_halves_of = record {
    network = u;
    truncated = cut;
    first_network = tl.network;
    second_network = tr.network;
    first_truncated = tl.truncated;
    second_truncated = tr.truncated;
    first_len = len_l;
    second_len = len_r;
    first_within = in_l;
    second_within = in_r;
    disjoint = apart;
    all = supernet_to_halves around l r tl.network is_supernet are_halves;
  }
