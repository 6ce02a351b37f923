-- The lease that shares an address with a network, if one does, is the last one that begins before the network ends.
use Rattle.std.proofs.Common.{◌≡◌, ◌≤◌, List, Contains, refl, sym, ap, ◌∙◌, subst, arith, inl, inr}
use Rattle.std.proofs.Common.{Option, Some, None, IfSome, IfNone, Bor, Result, Ok, Err}
use Rattle.std.specs.Prelude.{IfErr, ⊤}
use Rattle.std.proofs.lemmas.Bool.{cases_lt}
use Rattle.ipnet_base.specs.Address.{Address, width, family_index}
use Rattle.ipnet_base.specs.Network.{Network, InBlock, AreDisjoint, IsBefore, IsGreatestOf}
use Rattle.ipnet_base.proofs.BlockLaws.{own, own_in, between_from_block, block_from_between}
use Rattle.ipnet_base.proofs.ExactCoverLaws.{single}
use Rattle.ipnet_base.proofs.FamilyLaws.{same_family_from_index}
use Rattle.ipnet_base.proofs.NestingLaws.{nested, nested_or_disjoint}
use Rattle.ipnet.specs.declared.net.IpNet.{IpNet}
use Rattle.ipnet.specs.NetworkOf.{ip_network}
use Rattle.ipnet.specs.NetLaws.{ip_valid}
use Rattle.ipnet_pools.specs.Leases.{HasLeaseOf, IsInLease, AreLeases, IsRest, IsLastNotAfter}
use Rattle.ipnet_pools.specs.declared.error.PoolError.TheVariants.{Memory}
use Rattle.ipnet_pools.specs.declared.error.Refused.{Refused}
use Rattle.ipnet_pools.specs.Refusals.{IsNotFree, IsNotFreeAnd}
use Rattle.ipnet_pools.proofs.PoolLaws.{Leased}

-- what lies between two addresses of a block lies in it
pub convex : (n : Network) (a b c : Address) → InBlock n a → InBlock n b → c.family ≡ n.family → a.number ≤ c.number
    → c.number ≤ b.number → InBlock n c
convex n a b c in_a in_b family low high = block_from_between n c (record {
  of_family = family;
  from_start = omega (arith, low, (between_from_block n a in_a).from_start);
  to_end = omega (arith, high, (between_from_block n b in_b).to_end);
})

module _ {V : Type 0} (leases : List (IpNet × V)) (l : AreLeases leases) (n : Network) (z : Address)
    (greatest : IsGreatestOf n z) (last : IpNet)
    (is : ip_network last ≡ record { family = z.family; number = z.number; prefix_len = width z.family }) where
  begins_by : (k : IpNet) → HasLeaseOf leases k → (x : Address) → InBlock n x → InBlock (ip_network k) x
      → ¬ (IsBefore (ip_network last) (ip_network k))
  begins_by k has x a b before =
      let family : z.family ≡ (ip_network k).family =
      greatest.inside.same_family ∙ sym a.same_family ∙ b.same_family in
      let at : IsBefore (record { family = z.family; number = z.number; prefix_len = width z.family }) (ip_network k) =
      subst (λ m. IsBefore m (ip_network k)) is before in
      elim at [
        | inl lt ↦ omega (arith, lt, ap family_index family)
        | inr (same, inl lt) ↦ omega (arith, lt, l.truncated k has x b, greatest.greatest x a)
        | inr (same, inr (equal, lt)) ↦ omega (arith, lt, (ip_valid k).prefix_fits, ap width family)
      ]

  pub none_begins : ((k : IpNet) → HasLeaseOf leases k → IsBefore (ip_network last) (ip_network k)) → (x : Address)
      → InBlock n x → ¬ (IsInLease leases x)
  none_begins after x a (k, has, b) = begins_by k has x a b (after k has)

  module _ (m : IpNet) (lease : HasLeaseOf leases m) (found : IsLastNotAfter leases last m)
      (apart : AreDisjoint (ip_network m) n) where
    m_family_le : family_index (ip_network m).family ≤ family_index z.family
    m_family_le = elim (cases_lt (family_index z.family) (family_index (ip_network m).family)) [
      | inr le ↦ le
      | inl lt ↦ absurd (found.not_after (subst (λ k. IsBefore k (ip_network m)) (sym is) (inl lt)))
    ]

    m_number_le : z.family ≡ (ip_network m).family → (ip_network m).number ≤ z.number
    m_number_le same = elim (cases_lt z.number (ip_network m).number) [
      | inr le ↦ le
      | inl lt ↦ absurd (found.not_after (subst (λ k. IsBefore k (ip_network m)) (sym is) (inr (same, inl lt))))
    ]

    pub none_touches : (x : Address) → InBlock n x → ¬ (IsInLease leases x)
    none_touches x a (k, has, b) =
        let kn = ip_network k in
        let mn = ip_network m in
        let not_before : ¬ (IsBefore mn kn) = found.last k has (begins_by k has x a b) in
        let z_family : z.family ≡ kn.family = greatest.inside.same_family ∙ sym a.same_family ∙ b.same_family in
        let k_le : family_index kn.family ≤ family_index mn.family =
        elim (cases_lt (family_index mn.family) (family_index kn.family)) [
          | inr le ↦ le
          | inl lt ↦ absurd (not_before (inl lt))
        ] in
        let family : mn.family ≡ kn.family =
        same_family_from_index mn.family kn.family (omega (arith, m_family_le, k_le, ap family_index z_family)) in
        let low : kn.number ≤ mn.number = elim (cases_lt mn.number kn.number) [
          | inr le ↦ le
          | inl lt ↦ absurd (not_before (inr (family, inl lt)))
        ] in
        let high : mn.number ≤ z.number = m_number_le (z_family ∙ sym family) in
        elim (nested_or_disjoint kn n) [
          | inr (inr d) ↦ d x b a
          | inl k_in_n ↦
              apart (own mn) (own_in mn)
              (convex n (own kn) z (own mn) (k_in_n (own kn) (own_in kn)) greatest.inside
              (family ∙ sym z_family ∙ greatest.inside.same_family) low high)
          | inr (inl n_in_k) ↦
              l.apart k m has lease (λ same. apart x (subst (λ q. InBlock (ip_network q) x) same b) a) (own mn)
              (convex kn (own kn) z (own mn) (own_in kn) (n_in_k z greatest.inside) family low high) (own_in mn)
        ]

touches_address : (m : Network) (x : Address) → ¬ (AreDisjoint m (single x)) → InBlock m x
touches_address m x shares = elim (nested_or_disjoint m (single x)) [
  | inl s ↦
      nested (single x) m (own m) (s (own m) (own_in m)) (own_in m) (omega arith) x (own_in (single x))
  | inr (inl s) ↦ s x (own_in (single x))
  | inr (inr d) ↦ absurd (shares d)
]

module _ {V : Type 0} (leases : List (IpNet × V)) (x : Address) (h : Network) (is : h ≡ single x) where
  pub found_address : (o : Option (Bor IpNet × Bor V))
      → IfSome o (λ r. Contains leases (r.0.now, r.1.now) × ¬ (AreDisjoint (ip_network r.0.now) h))
      → IfSome o (λ r. Leased leases (ip_network r.0.now) r.1.now × InBlock (ip_network r.0.now) x)
  found_address (Some r) (c, shares) = (
    (r.0.now, refl, c),
    touches_address (ip_network r.0.now) x (subst (λ z. ¬ (AreDisjoint (ip_network r.0.now) z)) is shares),
  )
  found_address None c = tt

  pub missing_address : (o : Option (Bor IpNet × Bor V))
      → IfNone o ((y : Address) → InBlock h y → ¬ (IsInLease leases y))
      → IfNone o ((n : Network) (v : V) → Leased leases n v → ¬ (InBlock n x))
  missing_address (Some r) none = tt
  missing_address None none = λ n v leased a.
      none x (subst (λ z. InBlock z x) (sym is) (own_in (single x)))
      (leased.0, (v, leased.2), subst (λ z. InBlock z x) (sym leased.1) a)

-- a lease that touches a network shows that not all of the network is free, and without one all of it is
module _ {V : Type 0} (leases : List (IpNet × V)) (S Free : Address → Type 0) (rest : IsRest Free leases S)
    (n : Network)
  where
    pub touched_not_free : (k : IpNet) → HasLeaseOf leases k → ¬ (AreDisjoint (ip_network k) n)
        → ¬ ((x : Address) → InBlock n x → Free x)
    touched_not_free k has shares free = shares (λ x a b. ((rest x).0 (free x b)).1 (k, has, a))

    pub untouched_free : ((x : Address) → InBlock n x → S x) → ((x : Address) → InBlock n x → ¬ (IsInLease leases x))
        → (x : Address) → InBlock n x → Free x
    untouched_free lies none x a = (rest x).1 (lies x a, none x a)

-- a call that fails only because memory ran out does not say that a lease is in the way
pub memory_not_free : {T V : Type 0} (r : Result T (Refused V)) → IfErr r (λ refused. refused.error ≡ Memory)
    → ¬ (IsNotFree r)
memory_not_free (Ok t) e h = h
memory_not_free (Err refused) e h = subst (λ z. IsNotFreeAnd z (λ _. ⊤)) e h
