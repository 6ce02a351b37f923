-- The subnet step gives a maximal block, and the steps from start to end are the blocks of the range.
use Rattle.std.proofs.Common.{◌≡◌, ℕ, zero, suc, ◌+◌, ◌-◌, ◌*◌, ◌/◌, ◌^◌, ◌<◌, ◌≤◌, ◌⊎◌, List, [], ◌∷◌, Contains, refl}
use Rattle.std.proofs.Common.{sym, ap, ◌∙◌, subst, arith, inl, inr, mul-one, pow_pos}
use Rattle.std.proofs.Math.Nat.{div-one}
use Rattle.std.proofs.lemmas.Bool.{cases_lt, cases_eq}
use Rattle.ipnet_base.specs.Address.{Family, Address, width, IsBetween}
use Rattle.ipnet_base.specs.Network.{Network, host_bits, InBlock, IsSubnetOf, IsBefore, AreDisjoint, first_of, last_of}
use Rattle.ipnet_base.specs.Blocks.{IsInside, IsMaximal, AreMaximalBlocks}
use Rattle.ipnet_base.specs.Subnets.{StartsAt, IsLargestSubnetAt}
use Rattle.ipnet_base.proofs.BlockLaws.{at, own, own_in, last_in, between_from_block, block_from_between}
use Rattle.ipnet_base.proofs.NetworkLaws.{number_from_truncated, truncated_from_number, same_network}
use Rattle.ipnet_base.proofs.NestingLaws.{nested_or_disjoint, bits_from_subnet}
use Rattle.ipnet_base.proofs.ListLaws.{contains_here, contains_there, contains_cases, pairs_cons}
use Rattle.ipnet_base.proofs.MaximalLaws.{IsInside-of_block}
use Rattle.ipnet_base.proofs.UniqueLaws.{AreMaximalBlocks-nil, AreMaximalBlocks-unique}

-- the step is a maximal block of the range
pub IsMaximal-from_step : (f : Family) (s e m : ℕ) (n : Network) → IsLargestSubnetAt f s e m n
    → IsMaximal (IsBetween f s e) m n
IsMaximal-from_step f s e m n step = record {
  inside = step.candidate.inside;
  largest = λ k i sub.
      let own_k : IsBetween f s e (own k) = i.within (own k) (own_in k) in
      let not_above : k.number ≤ n.number = i.truncated (own n) (sub (own n) (own_in n)) in
      let start : k.number ≡ s = omega (arith, own_k.from_start, not_above, step.candidate.at_start) in
      let fam : k.family ≡ n.family = own_k.of_family ∙ sym step.candidate.of_family in
      let no_shorter : n.prefix_len ≤ k.prefix_len =
      step.largest k (record { inside = i; of_family = own_k.of_family; at_start = start }) in
      same_network k n fam (start ∙ sym step.candidate.at_start)
      (omega (
        arith,
        no_shorter,
        bits_from_subnet n k sub,
        ap width fam,
        i.network.prefix_fits,
        step.candidate.inside.network.prefix_fits,
      ));
}

-- A maximal block in front of the blocks of the rest of the set.
module _ (InSet Rest : Address → Type 0) (least : ℕ) (n : Network) (rest : List Network)
    (n_max : IsMaximal InSet least n)
    (split : (x : Address) → InSet x → InBlock n x ⊎ Rest x)
    (back : (x : Address) → Rest x → InSet x)
    (apart : (x : Address) → InBlock n x → Rest x → ⊥)
    (blocks : AreMaximalBlocks Rest least rest) where
  inside_back : (k : Network) → IsInside Rest least k → IsInside InSet least k
  inside_back k i = IsInside-of_block Rest InSet least k i (λ x a. back x (i.within x a))

  inside_rest : (k : Network) → IsInside InSet least k → AreDisjoint n k → IsInside Rest least k
  inside_rest k i d = IsInside-of_block InSet Rest least k i (λ x a. go x a (split x (i.within x a)))
    where
      go : (x : Address) → InBlock k x → InBlock n x ⊎ Rest x → Rest x
      go x a (inl b) = absurd (d x b a)
      go x a (inr r) = r

  rest_maximal : (z : Network) → IsMaximal Rest least z → IsMaximal InSet least z
  rest_maximal z h = record {
    inside = inside_back z h.inside;
    largest = λ k i s. elim (nested_or_disjoint n k) [
      | inl n_in_k ↦ absurd (not_in_n (λ x a. subst (λ q. InBlock q x) (n_max.largest k i n_in_k) (s x a)))
      | inr (inl k_in_n) ↦ absurd (not_in_n (λ x a. k_in_n x (s x a)))
      | inr (inr d) ↦ h.largest k (inside_rest k i d) s
    ];
  }
    where
      not_in_n : IsSubnetOf z n → ⊥
      not_in_n s = apart (own z) (s (own z) (own_in z)) (h.inside.within (own z) (own_in z))

  maximal_cases : (z : Network) → IsMaximal InSet least z → (n ≡ z) ⊎ IsMaximal Rest least z
  maximal_cases z h =
      elim (nested_or_disjoint n z) [
        | inl n_in_z ↦ inl (sym (n_max.largest z h.inside n_in_z))
        | inr (inl z_in_n) ↦ inl (h.largest n n_max.inside z_in_n)
        | inr (inr d) ↦ inr (record {
          inside = inside_rest z h.inside d;
          largest =
              λ k i s. h.largest k (inside_back k i) s;
        })
      ]

  pub AreMaximalBlocks-cons : ((k : Network) → Contains rest k → IsBefore n k) → AreMaximalBlocks InSet least (n ∷ rest)
  AreMaximalBlocks-cons before = record {
    ascending = pairs_cons IsBefore n rest before blocks.ascending;
    members = λ z. (to z, from z);
  }
    where
      to : (z : Network) → Contains (n ∷ rest) z → IsMaximal InSet least z
      to z c = elim (contains_cases n rest z c) [
        | inl e ↦ subst (IsMaximal InSet least) e n_max
        | inr d ↦ rest_maximal z ((blocks.members z).0 d)
      ]

      from : (z : Network) → IsMaximal InSet least z → Contains (n ∷ rest) z
      from z h = elim (maximal_cases z h) [
        | inl e ↦ subst (Contains (n ∷ rest)) e (contains_here n rest)
        | inr r ↦ contains_there n rest z ((blocks.members z).1 r)
      ]

-- the step in front of the blocks of what is left after it
pub AreMaximalBlocks-step : (f : Family) (s e m : ℕ) (n : Network) (rest : List Network) → IsLargestSubnetAt f s e m n
    → AreMaximalBlocks (IsBetween f (last_of n + 1) e) m rest → AreMaximalBlocks (IsBetween f s e) m (n ∷ rest)
AreMaximalBlocks-step f s e m n rest step blocks =
    AreMaximalBlocks-cons (IsBetween f s e) (IsBetween f (last_of n + 1) e) m n rest
    (IsMaximal-from_step f s e m n step)
    split back apart blocks before
  where
    first_is : first_of n ≡ s
    first_is = sym (number_from_truncated n step.candidate.inside.truncated) ∙ step.candidate.at_start

    split : (x : Address) → IsBetween f s e x → InBlock n x ⊎ IsBetween f (last_of n + 1) e x
    split x b = elim (cases_lt (last_of n) x.number) [
      | inl lt ↦ inr (record { of_family = b.of_family; from_start = omega (arith, lt); to_end = b.to_end })
      | inr le ↦ inl (block_from_between n x (record {
        of_family = b.of_family ∙ sym step.candidate.of_family;
        from_start = omega (arith, first_is, b.from_start);
        to_end = le;
      }))
    ]

    back : (x : Address) → IsBetween f (last_of n + 1) e x → IsBetween f s e x
    back x b = record { of_family = b.of_family; from_start = omega (arith, b.from_start, first_is); to_end = b.to_end }

    apart : (x : Address) → InBlock n x → IsBetween f (last_of n + 1) e x → ⊥
    apart x a b = omega (arith, (between_from_block n x a).to_end, b.from_start)

    before : (k : Network) → Contains rest k → IsBefore n k
    before k c =
        let b : IsBetween f (last_of n + 1) e (own k) = ((blocks.members k).0 c).inside.within (own k) (own_in k) in
        inr (
          step.candidate.of_family ∙ sym b.of_family,
          inl (omega (arith, b.from_start, (between_from_block n (own n) (own_in n)).to_end)),
        )

-- a block of b open bits that starts at s fits
abbrev pub FitsFrom : (s e b : ℕ) → Type 0
FitsFrom s e b = (s ≡ s / 2 ^ b * 2 ^ b) × (s + 2 ^ b ≤ e + 1)

fits_or_not : (s e b : ℕ) → FitsFrom s e b ⊎ (FitsFrom s e b → ⊥)
fits_or_not s e b =
    elim (cases_eq s (s / 2 ^ b * 2 ^ b)) [
      | inr not ↦ inr (λ h. not h.0)
      | inl aligned ↦ elim (cases_lt (e + 1) (s + 2 ^ b)) [
        | inl long ↦ inr (λ h. omega (arith, long, h.1))
        | inr short ↦ inl (aligned, short)
      ]
    ]

most_bits : (s e : ℕ) → s ≤ e → (top : ℕ)
    → (b : ℕ) × (b ≤ top) × FitsFrom s e b × ((c : ℕ) → c ≤ top → FitsFrom s e c → c ≤ b)
most_bits s e le zero = (0, omega arith, (sym (mul-one (s / 1) ∙ div-one s), omega arith), λ c h i. h)
most_bits s e le (suc top) =
    elim (fits_or_not s e (suc top)) [
      | inl fits ↦ (suc top, omega arith, fits, λ c h i. h)
      | inr unfit ↦
          let (b, in_top, fits, most) = most_bits s e le top in (
            b,
            omega arith,
            fits,
            λ c h i. elim (cases_eq c (suc top)) [
              | inl same ↦ absurd (unfit (subst (FitsFrom s e) same i))
              | inr other ↦ most c (omega arith) i
            ],
          )
    ]

-- the network at s with the most open bits that fit is the step
pub step_from_bits : (f : Family) (s e m b : ℕ) → s ≤ e → e < 2 ^ width f → m ≤ width f → b ≤ width f - m
    → FitsFrom s e b
    → ((c : ℕ) → c ≤ width f - m → FitsFrom s e c → c ≤ b) → (p : ℕ) → p + b ≡ width f
    → IsLargestSubnetAt f s e m (record { family = f; number = s; prefix_len = p })
step_from_bits f s e m b le fits m_fits b_fits good most p p_is = record { candidate = candidate; largest = largest }
  where
    n : Network
    n = record { family = f; number = s; prefix_len = p }

    bits : width f - p ≡ b
    bits = omega arith

    aligned : s ≡ s / 2 ^ (width f - p) * 2 ^ (width f - p)
    aligned = subst (λ b. s ≡ s / 2 ^ b * 2 ^ b) (sym bits) good.0

    short : s + 2 ^ (width f - p) ≤ e + 1
    short = subst (λ b. s + 2 ^ b ≤ e + 1) (sym bits) good.1

    candidate : StartsAt f s e m (record { family = f; number = s; prefix_len = p })
    candidate = record {
      inside = record {
        network = record { address_fits = omega (arith, le, fits); prefix_fits = omega arith };
        truncated = truncated_from_number (record { family = f; number = s; prefix_len = p }) aligned;
        long_enough = omega (arith, b_fits, m_fits, p_is);
        within = λ x a.
            let b : IsBetween f (s / 2 ^ (width f - p) * 2 ^ (width f - p))
            (s / 2 ^ (width f - p) * 2 ^ (width f - p) + (2 ^ (width f - p) - 1)) x =
            between_from_block (record { family = f; number = s; prefix_len = p }) x a in
            record {
              of_family = b.of_family;
              from_start = omega (arith, b.from_start, aligned);
              to_end =
                  omega (arith, b.to_end, aligned, short, pow_pos (width f - p));
            };
      };
      of_family = refl;
      at_start = refl;
    }

    largest : (k : Network) → StartsAt f s e m k → p ≤ k.prefix_len
    largest k c =
        let k_first : k.number ≡ first_of k = number_from_truncated k c.inside.truncated in
        let k_aligned : s ≡ s / 2 ^ host_bits k * 2 ^ host_bits k =
        subst (λ z. z ≡ z / 2 ^ host_bits k * 2 ^ host_bits k) c.at_start k_first in
        let k_last : last_of k ≤ e = (c.inside.within (at k (last_of k)) (last_in k)).to_end in
        let k_short : s + 2 ^ host_bits k ≤ e + 1 = omega (arith, k_last, k_first, c.at_start, pow_pos (host_bits k)) in
        let k_width : width k.family ≡ width f = ap width c.of_family in
        let no_more : host_bits k ≤ b =
        most (host_bits k) (omega (arith, c.inside.long_enough, k_width)) (k_aligned, k_short) in
        omega (arith, no_more, k_width, p_is, c.inside.network.prefix_fits)

-- from every start there is a step
pub step_exists : (f : Family) (s e m : ℕ) → s ≤ e → e < 2 ^ width f → m ≤ width f
    → (n : Network) × IsLargestSubnetAt f s e m n
step_exists f s e m le fits m_fits =
    let (b, in_top, good, most) = most_bits s e le (width f - m) in (
      record { family = f; number = s; prefix_len = width f - b },
      step_from_bits f s e m b le fits m_fits in_top good most (width f - b) (omega arith),
    )

blocks_by : (f : Family) (e m : ℕ) → e < 2 ^ width f → m ≤ width f → (d s : ℕ) → e + 1 ≤ d + s
    → (networks : List Network) × AreMaximalBlocks (IsBetween f s e) m networks
blocks_by f e m fits m_fits zero s h =
    ([], AreMaximalBlocks-nil (IsBetween f s e) m (λ x b. omega (arith, b.from_start, b.to_end)))
blocks_by f e m fits m_fits (suc d) s h =
    elim (cases_lt e s) [
      | inl past ↦ ([], AreMaximalBlocks-nil (IsBetween f s e) m (λ x b. omega (arith, b.from_start, b.to_end)))
      | inr le ↦
          let (n, step) = step_exists f s e m le fits m_fits in
          let last : s ≤ last_of n =
          omega (arith, (between_from_block n (own n) (own_in n)).to_end, step.candidate.at_start) in
          let (rest, blocks) = blocks_by f e m fits m_fits d (last_of n + 1) (omega arith) in
          (n ∷ rest, AreMaximalBlocks-step f s e m n rest step blocks)
    ]

-- every range has its blocks
pub blocks_exist : (f : Family) (s e m : ℕ) → e < 2 ^ width f → m ≤ width f
    → (networks : List Network) × AreMaximalBlocks (IsBetween f s e) m networks
blocks_exist f s e m fits m_fits = blocks_by f e m fits m_fits (e + 1) s (omega arith)

-- the blocks of a range are the step and the blocks of what is left after it
pub AreMaximalBlocks-uncons : (f : Family) (s e m : ℕ) (n : Network) (networks : List Network) → e < 2 ^ width f
    → m ≤ width f → IsLargestSubnetAt f s e m n
    → AreMaximalBlocks (IsBetween f s e) m networks
    → (rest : List Network) × (networks ≡ n ∷ rest) × AreMaximalBlocks (IsBetween f (last_of n + 1) e) m rest
AreMaximalBlocks-uncons f s e m n networks fits m_fits step blocks =
    let (rest, rest_blocks) = blocks_exist f (last_of n + 1) e m fits m_fits in (
      rest,
      AreMaximalBlocks-unique (IsBetween f s e) m networks (n ∷ rest) blocks
          (AreMaximalBlocks-step f s e m n rest step rest_blocks),
      rest_blocks,
    )
