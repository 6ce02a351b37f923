-- The parts of a list of blocks: one block, and the blocks in both halves of a network.
use Rattle.std.proofs.Common.{◌≡◌, ℕ, zero, suc, ◌+◌, ◌/◌, ◌^◌, ◌<◌, ◌≤◌, ◌⊎◌, inl, inr}
use Rattle.std.proofs.Common.{List, [], ◌∷◌, length, get_or, Contains, All}
use Rattle.std.proofs.Common.{refl, sym, ap, ◌∙◌, subst, arith}
use Rattle.std.proofs.lemmas.Bool.{cases_lt}
use Rattle.std.proofs.lemmas.Nat.{pow_pos}
use Rattle.ipnet_base.specs.Address.{Address, width}
use Rattle.ipnet_base.specs.Network.{Network, IsNetwork, InBlock, IsSubnetOf, AreDisjoint, IsTruncated, AreHalves}
use Rattle.ipnet_base.specs.Network.{IsSupernetOf, host_bits}
use Rattle.ipnet_base.specs.Blocks.{IsCoveredBy}
use Rattle.ipnet_base.proofs.BlockLaws.{own, own_in}
use Rattle.ipnet_base.proofs.CoverLaws.{cover_one, covering_member}
use Rattle.ipnet_base.proofs.ListLaws.{contains_here, contains_there, contains_cases, all_at}
use Rattle.ipnet_base.proofs.ListLaws.{pairs_head}
use Rattle.ipnet_base.proofs.NestingLaws.{nested}
use Rattle.ipnet_base.proofs.SupernetLaws.{supernet_to_halves, halves_apart}
use Rattle.ipnet_shortest.specs.Covers.{IsAdded}
use Rattle.ipnet_shortest.specs.Halves.{IsHalfWith, AreBlocksIn}
use Rattle.ipnet_shortest.specs.PartCovers.{IsAllowedCover, IsLacking, AddsAtLeast, IsPartCover}
use Rattle.ipnet_shortest.specs.PartCovers.{IsSolved}
use Rattle.ipnet_shortest.proofs.CountLaws.{count_of_none}
use Rattle.ipnet_shortest.proofs.CostLaws.{contains_some}
use Rattle.ipnet_shortest.proofs.SharedLaws.{all_one}

-- ---- one block

module _ (May : Address → Type 0) (b : Network) (limit : ℕ) where
  abbrev OneBlock : Address → Type 0
  OneBlock = IsCoveredBy (b ∷ [])

  one_cover : All IsNetwork (b ∷ []) → ((x : Address) → InBlock b x → May x) → IsPartCover OneBlock May b 1 0 (b ∷ [])
  one_cover valid may = record {
    cover = record {
      valid = valid;
      covers = λ x c. c;
      allowed = λ x c. may x ((cover_one b x).0 c);
    };
    within = λ x c. (cover_one b x).0 c;
    few = omega arith;
    are_added = count_of_none (IsAdded OneBlock (b ∷ [])) (λ x a. a.1 a.0);
  }

  pub one_solved : IsNetwork b → 0 < limit → ((x : Address) → InBlock b x → May x)
      → IsSolved OneBlock May limit b 0 1 (0 ∷ []) (λ i. b ∷ [])
  one_solved u some may = record {
    network = u;
    holds = λ x c. (cover_one b x).0 c;
    is_lacking = count_of_none (IsLacking OneBlock b) (λ x a. a.1 ((cover_one b x).1 a.0));
    lacks_less = pow_pos (host_bits b);
    whole = λ all. refl;
    are_costs = record {
      some = omega arith;
      first = omega arith;
      short = omega (arith, some);
      covers = covers;
      none = λ networks cover.
          let c = cover.covers (own b) ((cover_one b (own b)).1 (own_in b)) in
          contains_some networks c.1 (covering_member networks (own b) c);
      least = λ i lt networks cover few. adds i networks;
      last = λ i e networks cover few. adds i networks;
    };
  }
    where
      covers : (i : ℕ) → i < 1 → IsPartCover OneBlock May b (1 + i) (get_or (0 ∷ []) i 0) (b ∷ [])
      covers zero lt = one_cover (all_one b u) may
      covers (suc i) lt = absurd (omega (arith, lt))

      adds : (i : ℕ) (networks : List Network) → AddsAtLeast OneBlock b (get_or (0 ∷ []) i 0) networks
      adds zero networks more count = omega arith
      adds (suc i) networks more count = omega arith

  pub one_none : ¬ ((x : Address) → InBlock b x → May x) → (networks : List Network)
      → IsAllowedCover OneBlock May networks → limit < length networks
  one_none out networks cover =
      absurd (out (λ x a. cover.allowed x (cover.covers x ((cover_one b x).1 a))))

-- ---- several blocks

-- of two blocks in a network that share no address, each is smaller
smaller : (around n k : Network) → IsNetwork n → IsNetwork around → IsSubnetOf n around → IsSubnetOf k around
    → AreDisjoint n k → around.prefix_len < n.prefix_len
smaller around n k u v n_in k_in apart =
    let a : InBlock around (own n) = n_in (own n) (own_in n) in
    elim (cases_lt around.prefix_len n.prefix_len) [
      | inl lt ↦ lt
      | inr le ↦ absurd (apart (own k)
          (nested around n (own n) a (own_in n) (omega (arith, ap width a.same_family, le)) (own k)
          (k_in (own k) (own_in k))) (own_in k))
    ]

pub each_smaller : (around : Network) (blocks : List Network) → All IsNetwork blocks → IsNetwork around
    → AreBlocksIn blocks around → 1 < length blocks → (n : Network) → Contains blocks n
    → around.prefix_len < n.prefix_len
each_smaller around [] valid u h two n c = absurd (omega (arith, two))
each_smaller around (a ∷ []) valid u h two n c = absurd (omega (arith, two))
each_smaller around (a ∷ b ∷ rest) valid u h two n c =
    let in_a = contains_here a (b ∷ rest) in
    let in_b = contains_there a (b ∷ rest) b (contains_here b rest) in
    let inside = all_at (λ m. IsSubnetOf m around) (a ∷ b ∷ rest) h.within in
    elim (contains_cases a (b ∷ rest) n c) [
      | inl e ↦ smaller around n b (all_at IsNetwork (a ∷ b ∷ rest) valid n c) u (inside n c) (inside b in_b)
          (subst (λ m. AreDisjoint m b) e (pairs_head AreDisjoint a (b ∷ rest) h.disjoint b (contains_here b rest)))
      | inr d ↦ smaller around n a (all_at IsNetwork (a ∷ b ∷ rest) valid n c) u (inside n c) (inside a in_a)
          (λ x p q. pairs_head AreDisjoint a (b ∷ rest) h.disjoint n d x q p)
    ]

-- ---- two halves

-- the half with one block, and the half with a block that is not in it
module _ (around l r n k : Network) (u : IsNetwork around) (v : IsNetwork l) (w : IsNetwork r) (t : IsTruncated around)
    (of_n : IsHalfWith around n l) (of_k : IsHalfWith around k r) (out : ¬ (IsSubnetOf k l)) where
  above_l : IsSupernetOf around l
  above_l = record { network = u; truncated = t; shorter = of_n.shorter; contains = of_n.within }

  pub family_l : l.family ≡ around.family
  family_l = (of_n.within (own l) (own_in l)).same_family

  pub family_r : r.family ≡ around.family
  family_r = (of_k.within (own r) (own_in r)).same_family

  bits_l : host_bits around ≡ host_bits l + 1
  bits_l = omega (arith, of_n.shorter, ap width family_l, v.prefix_fits)

  pub bits_r : host_bits r ≡ host_bits l
  bits_r = omega (arith, of_n.shorter, of_k.shorter, ap width family_l, ap width family_r)

  pub are_halves : AreHalves l r
  are_halves = record {
    siblings = record {
      same_family = family_l ∙ sym family_r;
      same_len = sym of_n.shorter ∙ of_k.shorter;
      has_supernet = omega (arith, of_n.shorter);
      same_supernet = subst (λ b. l.number / 2 ^ b ≡ r.number / 2 ^ b) bits_l
          ((of_n.within (own l) (own_in l)).same_prefix ∙ sym (of_k.within (own r) (own_in r)).same_prefix);
    };
    differ = λ e. out (λ x a. nested r l (own r) (own_in r) (record {
      same_family = family_r ∙ sym family_l;
      same_prefix = sym e;
    }) (omega (arith, bits_r)) x (of_k.holds x a));
  }

  pub halves_disjoint : AreDisjoint l r
  halves_disjoint = halves_apart l r are_halves

  pub in_halves : (x : Address) → InBlock around x → InBlock l x ⊎ InBlock r x
  in_halves = supernet_to_halves around l r v above_l are_halves

  -- a network with addresses of both halves contains both
  pub around_halves : (m : Network) (x y : Address) → InBlock m x → InBlock l x → InBlock m y → InBlock r y
      → IsSubnetOf around m
  around_halves m x y mx lx my ry = elim (cases_lt (host_bits l) (host_bits m)) [
    | inl lt ↦ nested around m x (of_n.within x lx) mx (omega (arith, lt, bits_l))
    | inr le ↦ absurd (halves_disjoint y (nested m l x mx lx le y my) ry)
  ]

  -- a network in the other network that is in neither half has as many bits
  pub in_second_half : (m : Network) → IsSubnetOf m around → around.prefix_len < m.prefix_len → ¬ (IsSubnetOf m l)
      → IsSubnetOf m r
  in_second_half m m_in longer not_l =
      let a : InBlock around (own m) = m_in (own m) (own_in m) in
      let le : host_bits m ≤ host_bits l = omega (arith, longer, ap width a.same_family, bits_l) in
      elim (in_halves (own m) a) [
        | inl i ↦ absurd (not_l (nested m l (own m) (own_in m) i le))
        | inr j ↦ nested m r (own m) (own_in m) j (omega (arith, le, bits_r))
      ]
