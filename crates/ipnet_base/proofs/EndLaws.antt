-- Networks that end before another starts: their order, lists in which each ends before the next, and the supernet of
-- two halves of which the first ends before the second.
use Rattle.std.proofs.Common.{◌≡◌, ℕ, ◌<◌, ◌≤◌, ◌⊎◌, List, Contains, All, AllPairs, sym, ap, ◌∙◌, subst, arith, inl}
use Rattle.std.proofs.Common.{inr}
use Rattle.std.proofs.lemmas.Bool.{cases_lt, cases_order}
use Rattle.ipnet_base.specs.Address.{Address, width, family_index}
use Rattle.ipnet_base.specs.Network.{Network, IsNetwork, host_bits, InBlock, IsSubnetOf, IsTruncated, AreHalves}
use Rattle.ipnet_base.specs.Network.{IsBefore, last_of, IsSupernetOf}
use Rattle.ipnet_base.specs.Stack.{LiesBefore, AreJoined, IsBeforeOrEqual}
use Rattle.ipnet_base.proofs.BlockLaws.{at, own, own_in, last_in, block_between}
use Rattle.ipnet_base.proofs.NestingLaws.{nested, nested_or_disjoint}
use Rattle.ipnet_base.proofs.ListLaws.{pair_at, one_place, pairs_from_adjacent, all_at}
use Rattle.ipnet_base.proofs.SupernetLaws.{supernet_to_halves}

-- `LiesBefore`, by numbers only
abbrev pub EndsBelow : (f g last number : ℕ) → Type 0
EndsBelow f g last number = (f < g) ⊎ ((f ≡ g) × (last < number))

pub ends_by_numbers : (n k : Network) → LiesBefore n k
    → EndsBelow (family_index n.family) (family_index k.family) (last_of n) k.number
ends_by_numbers n k (inl h) = inl h
ends_by_numbers n k (inr h) = inr (ap family_index h.0, h.1 (at n (last_of n)) (last_in n))

LiesBefore-transitive : (n k l : Network) → LiesBefore n k → LiesBefore k l → LiesBefore n l
LiesBefore-transitive n k l (inl h) (inl i) = inl (omega arith)
LiesBefore-transitive n k l (inl h) (inr i) = inl (omega (arith, h, ap family_index i.0))
LiesBefore-transitive n k l (inr h) (inl i) = inl (omega (arith, i, ap family_index h.0))
LiesBefore-transitive n k l (inr h) (inr i) =
    inr (h.0 ∙ i.0, λ x a. omega (arith, h.1 x a, i.1 (own k) (own_in k)))

pub before_from_ends : (n k : Network) → LiesBefore n k → IsBefore n k
before_from_ends n k (inl h) = inl h
before_from_ends n k (inr h) = inr (h.0, inl (h.1 (own n) (own_in n)))

-- each ends before all later ones
pub ends_before_all : (networks : List Network) → AreJoined networks → AllPairs LiesBefore networks
ends_before_all networks joined = pairs_from_adjacent LiesBefore LiesBefore-transitive networks joined.apart

-- a network that ends before another shares no address with it
pub ends_apart : (n k : Network) (x : Address) → IsTruncated k → LiesBefore n k → InBlock n x → InBlock k x → ⊥
ends_apart n k x t (inl h) a b = absurd (omega (arith, h, ap family_index (sym a.same_family ∙ b.same_family)))
ends_apart n k x t (inr h) a b = absurd (omega (arith, h.1 x a, t x b))

-- members that share an address are one
pub one_member : (networks : List Network) → All IsTruncated networks → AllPairs LiesBefore networks
    → (n k : Network) → Contains networks n → Contains networks k → (x : Address) → InBlock n x → InBlock k x → n ≡ k
one_member networks trunc ends n k c e x a b =
    elim (cases_order c.0 e.0) [
      | inl same ↦ one_place networks n k c e same
      | inr (inl lt) ↦
          absurd (ends_apart n k x (all_at IsTruncated networks trunc k e)
          (pair_at LiesBefore networks ends n k c e lt) a b)
      | inr (inr gt) ↦
          absurd (ends_apart k n x (all_at IsTruncated networks trunc n c)
          (pair_at LiesBefore networks ends k n e c gt) b a)
    ]

-- a network that starts no later than the next and does not cover it ends before it
pub ends_before_next : (t n : Network) → IsNetwork t → IsNetwork n → IsTruncated t → IsTruncated n
    → IsBeforeOrEqual t n → (IsSubnetOf n t → ⊥) → LiesBefore t n
ends_before_next t n u v tt_ tn (inl e) out = absurd (out (subst (λ z. IsSubnetOf z t) e (λ x a. a)))
ends_before_next t n u v tt_ tn (inr (inl h)) out = inl h
ends_before_next t n u v tt_ tn (inr (inr (f, order))) out =
    elim (nested_or_disjoint t n) [
      | inr (inl n_in_t) ↦ absurd (out n_in_t)
      | inl t_in_n ↦
          let least : n.number ≤ t.number = tn (own t) (t_in_n (own t) (own_in t)) in
          let bits : host_bits n ≤ host_bits t = omega (arith, least, order, ap width f) in
          absurd (out (nested n t (own t) (t_in_n (own t) (own_in t)) (own_in t) bits))
      | inr (inr apart) ↦ inr (
        f,
        λ x a. elim (cases_lt x.number n.number) [
          | inl lt ↦ lt
          | inr ge ↦ absurd (apart (own n) (between x a ge) (own_in n))
        ],
      )
    ]
  where
    between : (x : Address) → InBlock t x → n.number ≤ x.number → InBlock t (own n)
    between x a ge = block_between t x (own n) a (sym f) (omega (arith, order)) ge

-- the supernet of two halves starts at the start of the first half
pub supernet_start : (s t n : Network) → IsNetwork t → IsSupernetOf s t → AreHalves t n → IsTruncated t
    → IsTruncated n → LiesBefore t n → s.number ≡ t.number
supernet_start s t n u p h tr tn ends =
    let up : s.number ≤ t.number = p.truncated (own t) (p.contains (own t) (own_in t)) in
    elim (supernet_to_halves s t n u p h (own s) (own_in s)) [
      | inl a ↦ omega (arith, up, tr (own s) a)
      | inr b ↦ omega (arith, up, tn (own s) b, starts_after ends)
    ]
  where
    starts_after : LiesBefore t n → t.number < n.number
    starts_after (inl i) = absurd (omega (arith, i, ap family_index h.siblings.same_family))
    starts_after (inr i) = i.1 (own t) (own_in t)

-- what ends before the first half ends before the supernet
pub ends_before_supernet : (m s t : Network) → IsSupernetOf s t → s.number ≡ t.number → LiesBefore m t → LiesBefore m s
ends_before_supernet m s t p e (inl h) =
    inl (omega (arith, h, ap family_index (p.contains (own t) (own_in t)).same_family))
ends_before_supernet m s t p e (inr h) =
    inr (h.0 ∙ (p.contains (own t) (own_in t)).same_family, λ x a. omega (arith, h.1 x a, e))
