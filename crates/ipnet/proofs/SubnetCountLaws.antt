-- The walk over a network's own block. If the minimum prefix length is at least the network's own, the walk yields
-- exactly the subnets of that length.
use Rattle.std.proofs.Common.{◌≡◌, ℕ, zero, suc, ◌+◌, ◌-◌, ◌*◌, ◌/◌, ◌^◌, ◌<◌, ◌≤◌, List, [], ◌∷◌, length, All}
use Rattle.std.proofs.Common.{Contains, refl, sym, ap, ◌∙◌, subst, arith, inl, inr, pow_pos, pow-add, add-one}
use Rattle.std.proofs.Math.Nat.{mul_assoc, mul-div_cancel}
use Rattle.ipnet_base.specs.Address.{Family, Address, width, IsBetween}
use Rattle.ipnet_base.specs.Network.{Network, IsNetwork, InBlock, IsLeastOf, IsGreatestOf, host_bits, first_of, last_of}
use Rattle.ipnet_base.specs.Blocks.{IsMaximal, AreMaximalBlocks}
use Rattle.ipnet_base.specs.Subnets.{SubnetRange, IsLargestSubnetAt}
use Rattle.ipnet_base.proofs.BlockLaws.{own, own_in, last_fits, between_from_block, block_from_between}
use Rattle.ipnet_base.proofs.BlockLaws.{first_from_least, last_from_greatest}
use Rattle.ipnet_base.proofs.NestingLaws.{nested}
use Rattle.ipnet_base.proofs.NetworkLaws.{same_from_block}
use Rattle.ipnet_base.proofs.UniqueLaws.{AreMaximalBlocks-nil, maximal_blocks_apart, AreMaximalBlocks-same_set}
use Rattle.ipnet_base.proofs.UniqueLaws.{AreMaximalBlocks-unique}
use Rattle.ipnet_base.proofs.ListLaws.{contains_nil, contains_cases, all_from_members, all_at}
use Rattle.ipnet_base.proofs.WalkLaws.{AreMaximalBlocks-uncons, step_from_bits}
use Rattle.ipnet.specs.NetworkParts.{IsSubnetOfLength, AreSubnetsOfLength, IsBlockRange}

-- `count` networks of this length
abbrev AreOfLength : (prefix_len count : ℕ) → List Network → Type 0
AreOfLength prefix_len count networks = All (λ k. k.prefix_len ≡ prefix_len) networks × (length networks ≡ count)

of_length_cons : (q count : ℕ) (n : Network) (rest : List Network) → n.prefix_len ≡ q → AreOfLength q count rest
    → AreOfLength q (count + 1) (n ∷ rest)
of_length_cons q count n rest same others = (
  all_from_members (λ k. k.prefix_len ≡ q) (n ∷ rest)
      (λ k c. elim (contains_cases n rest k c) [
        | inl e ↦ ap (λ z. z.prefix_len) (sym e) ∙ same
        | inr d ↦ all_at (λ k. k.prefix_len ≡ q) rest others.0 k d
      ]),
  omega (arith, others.1),
)

-- the walk of `count` blocks of one length, from the a-th of all such blocks of the family
walk_of_length : (f : Family) (q e : ℕ) → q ≤ width f → e < 2 ^ width f → (count a : ℕ) (networks : List Network)
    → e + 1 ≡ (a + count) * 2 ^ (width f - q) → AreMaximalBlocks (IsBetween f (a * 2 ^ (width f - q)) e) q networks
    → AreOfLength q count networks
walk_of_length f q e q_fits fits zero a networks ends blocks =
    let none : networks ≡ [] = AreMaximalBlocks-unique (IsBetween f (a * 2 ^ (width f - q)) e) q networks [] blocks
    (AreMaximalBlocks-nil (IsBetween f (a * 2 ^ (width f - q)) e) q
    (λ x b. omega (arith, ends, b.from_start, b.to_end))) in
    subst (AreOfLength q zero) (sym none)
    (all_from_members (λ k. k.prefix_len ≡ q) [] (λ k c. absurd (contains_nil k c)), refl)
walk_of_length f q e q_fits fits (suc count) a networks ends blocks =
    let (rest, split, later) = AreMaximalBlocks-uncons f s e q n networks fits q_fits step blocks in
    subst (AreOfLength q (suc count)) (sym split)
    (subst (λ c. AreOfLength q c (n ∷ rest)) (add-one count)
    (of_length_cons q count n rest refl
    (walk_of_length f q e q_fits fits count (a + 1) rest (omega (arith, ends))
    (subst (λ z. AreMaximalBlocks (IsBetween f z e) q rest) next_start later))))
  where
    s : ℕ
    s = a * 2 ^ (width f - q)

    n : Network
    n = record { family = f; number = a * 2 ^ (width f - q); prefix_len = q }

    aligned : a * 2 ^ (width f - q) ≡ a * 2 ^ (width f - q) / 2 ^ (width f - q) * 2 ^ (width f - q)
    aligned = sym (ap (λ z. z * 2 ^ (width f - q)) (mul-div_cancel a (pow_pos (width f - q))))

    ends_after : e + 1 ≡ a * 2 ^ (width f - q) + 2 ^ (width f - q) + count * 2 ^ (width f - q)
    ends_after = omega (arith, ends)

    next_start : a * 2 ^ (width f - q) / 2 ^ (width f - q) * 2 ^ (width f - q) + (2 ^ (width f - q) - 1) + 1
        ≡ (a + 1) * 2 ^ (width f - q)
    next_start = omega (arith, aligned, pow_pos (width f - q))

    step : IsLargestSubnetAt f s e q n
    step =
        step_from_bits f (a * 2 ^ (width f - q)) e q (width f - q) (omega (arith, ends_after, pow_pos (width f - q)))
        fits q_fits (omega arith)
        (aligned, omega (arith, ends_after)) (λ c c_fits good. c_fits) q (omega (arith, q_fits))

-- the walk over the block of a network, by networks of a length that is at least its own
subnets_of_length : (n : Network) (q : ℕ) (networks : List Network) → IsNetwork n → n.prefix_len ≤ q
    → q ≤ width n.family
    → AreMaximalBlocks (IsBetween n.family (first_of n) (last_of n)) q networks
    → AreMaximalBlocks (InBlock n) q networks × AreOfLength q (2 ^ (q - n.prefix_len)) networks
subnets_of_length n q networks valid longer q_fits blocks = (
  AreMaximalBlocks-same_set (IsBetween n.family (first_of n) (last_of n)) (InBlock n) q networks
      (λ x. (block_from_between n x, between_from_block n x)) blocks,
  walk_of_length n.family q (last_of n) q_fits (last_fits n valid) (2 ^ (q - n.prefix_len)) first_place networks
      (omega (arith, first_is, size, pow_pos (host_bits n)))
      (subst (λ s. AreMaximalBlocks (IsBetween n.family s (last_of n)) q networks) first_is blocks),
)
  where
    size : 2 ^ host_bits n ≡ 2 ^ (q - n.prefix_len) * 2 ^ (width n.family - q)
    size = ap (λ k. 2 ^ k) (omega (arith, longer, q_fits)) ∙ pow-add 2 (q - n.prefix_len) (width n.family - q)

    -- the number of blocks of the length before the network
    first_place : ℕ
    first_place = n.number / 2 ^ host_bits n * 2 ^ (q - n.prefix_len)

    first_is : first_of n ≡ n.number / 2 ^ host_bits n * 2 ^ (q - n.prefix_len) * 2 ^ (width n.family - q)
    first_is = ap (λ z. n.number / 2 ^ host_bits n * z) size
        ∙ sym (mul_assoc (n.number / 2 ^ host_bits n) (2 ^ (q - n.prefix_len)) (2 ^ (width n.family - q)))

-- The walk from the least address of a network to the greatest, under a minimum prefix length from the network's
-- own on, is all networks of that length inside.
pub AreSubnetsOfLength-from_walk : (n : Network) (q : ℕ) (networks : List Network) (low high : Address) → IsNetwork n
    → n.prefix_len ≤ q → q ≤ width n.family
    → IsLeastOf n low → IsGreatestOf n high → AreMaximalBlocks (IsBetween n.family low.number high.number) q networks
    → AreSubnetsOfLength n q networks
AreSubnetsOfLength-from_walk n q networks low high u longer fits least greatest walk = record {
  ascending = walk.ascending;
  members = λ k. (to k, from k);
  disjoint = maximal_blocks_apart (InBlock n) q networks counted.0;
  count = counted.1.1;
  blocks = counted.0;
}
  where
    counted : AreMaximalBlocks (InBlock n) q networks × AreOfLength q (2 ^ (q - n.prefix_len)) networks
    counted = subnets_of_length n q networks u longer fits
        (subst (λ z. AreMaximalBlocks (IsBetween n.family (first_of n) z) q networks)
        (last_from_greatest n high greatest)
        (subst (λ z. AreMaximalBlocks (IsBetween n.family z high.number) q networks) (first_from_least n low least)
        walk))

    to : (k : Network) → Contains networks k → IsSubnetOfLength n q k
    to k c =
        let m : IsMaximal (InBlock n) q k = (counted.0.members k).0 c in
        record {
          network = m.inside.network;
          truncated = m.inside.truncated;
          of_length =
              all_at (λ k. k.prefix_len ≡ q) networks counted.1.0 k c;
          within = m.inside.within;
        }

    from : (k : Network) → IsSubnetOfLength n q k → Contains networks k
    from k h = (counted.0.members k).1 (record {
      inside =
          record {
            network = h.network;
            truncated = h.truncated;
            long_enough = omega (arith, h.of_length);
            within =
                h.within;
          };
      largest = λ m i s.
          let shared : InBlock m (own k) = s (own k) (own_in k) in
          let bits : host_bits m ≤ host_bits k =
          omega (arith, i.long_enough, h.of_length, ap width shared.same_family) in
          same_from_block m k i.network h.network i.truncated h.truncated
          (nested m k (own k) shared (own_in k) bits, s);
    })

pub IsBlockRange-from_ends : (n : Network) (q : ℕ) (range : SubnetRange) (low high : Address) → IsLeastOf n low
    → IsGreatestOf n high
    → range ≡ record { family = n.family; start = low.number; end = high.number; min_prefix_len = q }
    → IsBlockRange n q range
IsBlockRange-from_ends n q range low high l g e x y p r =
    let start : low.number ≡ x.number = first_from_least n low l ∙ sym (first_from_least n x p) in
    let end : high.number ≡ y.number = last_from_greatest n high g ∙ sym (last_from_greatest n y r) in
    e ∙ (λ i. record { family = n.family; start = start i; end = end i; min_prefix_len = q })
