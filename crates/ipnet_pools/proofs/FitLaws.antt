-- Room in a set of addresses, and what of it is left.
use Rattle.std.proofs.Common.{◌≡◌, ℕ, ◌/◌, ◌^◌, ◌≤◌, ◌⊎◌, [], ◌∷◌, refl, sym, ap, ◌∙◌, subst, arith, inl, inr}
use Rattle.ipnet_base.specs.Address.{Family, Address, width}
use Rattle.ipnet_base.specs.Network.{Network, IsNetwork, InBlock, IsSubnetOf, AreDisjoint}
use Rattle.ipnet_base.specs.Network.{host_bits, truncation}
use Rattle.ipnet_base.specs.Blocks.{IsInside, IsMaximal}
use Rattle.ipnet_base.proofs.BlockLaws.{own, own_in}
use Rattle.ipnet_base.proofs.NestingLaws.{nested, nested_or_disjoint, subnet_from_own, longer_from_subnet}
use Rattle.ipnet_base.proofs.NetworkLaws.{IsTruncated-truncation, IsNetwork-truncation, truncation_in, in_truncation}
use Rattle.ipnet_base.proofs.MaximalLaws.{maximal_above, one_maximal, IsInside-of_block}
use Rattle.ipnet_base.proofs.DecidedLaws.{IsDecided, IsDecided-cover}
use Rattle.ipnet_base.proofs.CoverLaws.{cover_one}
use Rattle.ipnet_pools.specs.Fits.{IsFit, HasRoom, Without, IsLargeEnough, IsBestFit}

-- the network with another prefix length
abbrev pub with_len : Network → ℕ → Network
with_len n q = record n { prefix_len = q }

-- the network of a shorter prefix length that holds it
abbrev pub above : Network → ℕ → Network
above n q = truncation (with_len n q)

pub in_block_or_not : (n : Network) (x : Address) → InBlock n x ⊎ (InBlock n x → ⊥)
in_block_or_not n x = elim (IsDecided-cover (n ∷ []) x) [
  | inl a ↦ inl ((cover_one n x).0 a)
  | inr none ↦ inr (λ a. none ((cover_one n x).1 a))
]

-- a block of a longer prefix length at the start of another lies in it
pub start_in : (n : Network) (q : ℕ) → n.prefix_len ≤ q → IsSubnetOf (with_len n q) n
start_in n q le = subnet_from_own (with_len n q) n le (own_in n)

pub IsInside-at_start : (InSet : Address → Type 0) (n : Network) (q : ℕ) → IsInside InSet 0 n → n.prefix_len ≤ q
    → q ≤ width n.family → IsInside InSet 0 (with_len n q)
IsInside-at_start InSet n q i le fits = record {
  network = record { address_fits = i.network.address_fits; prefix_fits = fits };
  truncated = λ x a. i.truncated x (start_in n q le x a);
  long_enough = omega arith;
  within = λ x a. i.within x (start_in n q le x a);
}

-- the network of a shorter length holds it, and lies in each network, not longer, that holds it
pub in_above : (n : Network) (q : ℕ) → q ≤ n.prefix_len → IsSubnetOf n (above n q)
in_above n q le x a =
    in_truncation (with_len n q) x (subnet_from_own n (with_len n q) le (own_in (with_len n q)) x a)

above_below : (n k : Network) (q : ℕ) → k.prefix_len ≤ q → IsSubnetOf n k → IsSubnetOf (above n q) k
above_below n k q le sub x a =
    subnet_from_own (with_len n q) k le (sub (own n) (own_in n)) x (truncation_in (with_len n q) x a)

pub IsInside-above : (InSet : Address → Type 0) (n k : Network) (q : ℕ) → IsNetwork n → q ≤ n.prefix_len
    → IsInside InSet 0 k → k.prefix_len ≤ q → IsSubnetOf n k → IsInside InSet 0 (above n q)
IsInside-above InSet n k q u le i short sub = record {
  network = IsNetwork-truncation (with_len n q)
      (record { address_fits = u.address_fits; prefix_fits = omega (arith, u.prefix_fits, le) });
  truncated = IsTruncated-truncation (with_len n q);
  long_enough = omega arith;
  within = λ x a. i.within x (above_below n k q short sub x a);
}

-- blocks with equally many open bits are one inside the other, or apart
pub same_or_apart : (n k : Network) → host_bits n ≡ host_bits k → IsSubnetOf n k ⊎ AreDisjoint n k
same_or_apart n k e =
    elim (nested_or_disjoint n k) [
      | inl s ↦ inl s
      | inr (inl s) ↦ inl (nested n k (own k) (s (own k) (own_in k)) (own_in k) (omega (arith, e)))
      | inr (inr d) ↦ inr d
    ]

-- what lies in the rest lies in the set, apart from what was taken; and back
pub IsInside-of_rest : (InSet : Address → Type 0) (n k : Network) → IsInside (Without InSet n) 0 k → IsInside InSet 0 k
IsInside-of_rest InSet n k i = IsInside-of_block (Without InSet n) InSet 0 k i (λ x a. (i.within x a).0)

pub IsFit-of_rest : (InSet : Address → Type 0) (n k : Network) (f : Family) (q : ℕ) → IsFit (Without InSet n) f q k
    → IsFit InSet f q k
IsFit-of_rest InSet n k f q fit = record {
  inside = IsInside-of_rest InSet n k fit.inside;
  of_family = fit.of_family;
  of_length = fit.of_length;
}

IsFit-in_rest : (InSet : Address → Type 0) (n k : Network) (f : Family) (q : ℕ) → IsFit InSet f q k
    → AreDisjoint k n → IsFit (Without InSet n) f q k
IsFit-in_rest InSet n k f q fit apart = record {
  inside = IsInside-of_block InSet (Without InSet n) 0 k fit.inside (λ x a. (fit.inside.within x a, λ b. apart x a b));
  of_family = fit.of_family;
  of_length = fit.of_length;
}

-- a fit lies in a block that is large enough, and such a block has a fit at its start
pub large_enough_above : (InSet : Address → Type 0) → IsDecided InSet → (f : Family) (p : ℕ) (n : Network)
    → IsFit InSet f p n → (b : Network) × IsLargeEnough InSet f p b × IsSubnetOf n b
large_enough_above InSet dec f p n fit =
    let (m, max, sub) = maximal_above InSet 0 dec n fit.inside in (
      m,
      record {
        maximal = max;
        of_family = sym (sub (own n) (own_in n)).same_family ∙ fit.of_family;
        enough =
            omega (arith, longer_from_subnet n m fit.inside.network max.inside.network sub, fit.of_length);
      },
      sub,
    )

pub fit_at_start : (InSet : Address → Type 0) (f : Family) (p : ℕ) (b : Network) → p ≤ width f
    → IsLargeEnough InSet f p b → IsFit InSet f p (with_len b p)
fit_at_start InSet f p b fits h = record {
  inside = IsInside-at_start InSet b p h.maximal.inside h.enough (omega (arith, fits, ap width h.of_family));
  of_family = h.of_family;
  of_length = refl;
}

-- the best fit lies in its block
best_in_block : (InSet : Address → Type 0) (f : Family) (p : ℕ) (n : Network) (best : IsBestFit InSet f p n)
    → IsSubnetOf n best.block
best_in_block InSet f p n best =
    subnet_from_own n best.block (omega (arith, best.large_enough.enough, best.fit.of_length)) (record {
      same_family = best.fit.of_family ∙ sym best.large_enough.of_family;
      same_prefix = ap (λ z. z / 2 ^ host_bits best.block) best.at_start;
    })

-- every other maximal block stays one
pub others_stay : (InSet : Address → Type 0) (f : Family) (p : ℕ) (n : Network) (best : IsBestFit InSet f p n)
    → (k : Network) → IsMaximal InSet 0 k → (k ≡ best.block → ⊥) → IsMaximal (Without InSet n) 0 k
others_stay InSet f p n best k max other =
    let block = best.large_enough.maximal in
    record {
      inside = IsInside-of_block InSet (Without InSet n) 0 k max.inside (λ x a. (
        max.inside.within x a,
        λ b. other (one_maximal InSet 0 k best.block max block x a (best_in_block InSet f p n best x b)),
      ));
      largest = λ j i sub. max.largest j (IsInside-of_rest InSet n j i) sub;
    }

-- Whatever else fits after some other network of the length is taken fits after the best fit is.
pub best_fit_keeps_room : (InSet : Address → Type 0) → IsDecided InSet → (f : Family) (p : ℕ) (n m : Network)
    → IsBestFit InSet f p n → IsFit InSet f p m → (g : Family) (q : ℕ) → HasRoom (Without InSet m) g q
    → HasRoom (Without InSet n) g q
best_fit_keeps_room InSet dec f p n m best other g q (k, rest) =
    let fit : IsFit InSet g q k = IsFit-of_rest InSet m k g q rest in
    let apart : AreDisjoint k m = λ x a b. (rest.inside.within x a).1 b in
    elim (nested_or_disjoint n k) [
      | inr (inr d) ↦ (k, IsFit-in_rest InSet n k g q fit (λ x a b. d x b a))
      | inr (inl k_in_n) ↦
          let k_family : k.family ≡ n.family = (k_in_n (own k) (own_in k)).same_family in
          let family : m.family ≡ k.family = other.of_family ∙ sym best.fit.of_family ∙ sym k_family in
          let longer : n.prefix_len ≤ k.prefix_len =
          longer_from_subnet k n fit.inside.network best.fit.inside.network k_in_n in
          let le : m.prefix_len ≤ q = omega (arith, longer, other.of_length, best.fit.of_length, fit.of_length) in
          let bits : host_bits n ≡ host_bits m =
          omega (arith, ap width family, ap width k_family, other.of_length, best.fit.of_length) in
          elim (same_or_apart n m bits) [
            | inl n_in_m ↦
                absurd (apart (own k) (own_in k) (n_in_m (own k) (k_in_n (own k) (own_in k))))
            | inr n_apart ↦
                let there : IsFit InSet g q (with_len m q) = record {
                  inside = IsInside-at_start InSet m q other.inside le
                      (omega (arith, fit.inside.network.prefix_fits, fit.of_length, ap width family));
                  of_family = family ∙ fit.of_family;
                  of_length = refl;
                } in (
                  with_len m q,
                  IsFit-in_rest InSet n (with_len m q) g q there
                      (λ x a b. n_apart x b (start_in m q le x a)),
                )
          ]
      | inl n_in_k ↦
          let block = best.block in
          let n_family : n.family ≡ k.family = (n_in_k (own n) (own_in n)).same_family in
          let n_in_block : IsSubnetOf n block = best_in_block InSet f p n best in
          let k_in_block : IsSubnetOf k block = elim (nested_or_disjoint k block) [
            | inl s ↦ s
            | inr (inl s) ↦
                let same : k ≡ block = best.large_enough.maximal.largest k fit.inside s in
                subst (λ z. IsSubnetOf k z) same (λ x a. a)
            | inr (inr d) ↦ absurd (d (own n) (n_in_k (own n) (own_in n)) (n_in_block (own n) (own_in n)))
          ] in
          let shorter : k.prefix_len ≤ n.prefix_len =
          longer_from_subnet n k best.fit.inside.network fit.inside.network n_in_k in
          let block_short : block.prefix_len ≤ k.prefix_len =
          longer_from_subnet k block fit.inside.network best.large_enough.maximal.inside.network k_in_block in
          let (b, large, m_in_b) = large_enough_above InSet dec f p m other in
          let le : q ≤ m.prefix_len = omega (arith, shorter, other.of_length, best.fit.of_length, fit.of_length) in
          let b_short : b.prefix_len ≤ q = omega (arith, best.smallest b large, block_short, fit.of_length) in
          let family : m.family ≡ k.family = other.of_family ∙ sym best.fit.of_family ∙ n_family in
          let there : IsFit InSet g q (above m q) = record {
            inside = IsInside-above InSet m b q other.inside.network le large.maximal.inside b_short m_in_b;
            of_family = family ∙ fit.of_family;
            of_length = refl;
          } in
          let bits : host_bits (above m q) ≡ host_bits k = omega (arith, ap width family, fit.of_length) in
          elim (same_or_apart (above m q) k bits) [
            | inl s ↦ absurd (apart (own m) (s (own m) (in_above m q le (own m) (own_in m))) (own_in m))
            | inr d ↦ (above m q, IsFit-in_rest InSet n (above m q) g q there (λ x a b. d x a (n_in_k x b)))
          ]
    ]
