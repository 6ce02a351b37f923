-- The members of the map of leases after an insertion and after a removal.
use Rattle.std.proofs.Common.{◌≡◌, ◌⊎◌, ◌↔◌, Bool, true, false, Option, Some, None, List, Contains, inl, inr}
use Rattle.std.proofs.Common.{◌∙◌, refl, sym, ap, subst, arith, Ordering, Less, Equal, Greater, cond, [], ◌∷◌}
use Rattle.std.proofs.Common.{Bor, option_copied, IfSome, IfNone}
use Rattle.std.specs.Cmp.{IsTotalOrder, strict}
use Rattle.std.specs.Ordering.{MatchOrdering, is_eq, is_gt, is_lt}
use Rattle.std.specs.Option.{IsSome}
use Rattle.std.specs.BTreeMap.Range.{IsRangeOf}
use Rattle.std.specs.Map.Iter.{TakesLast, deref_pair}
use Rattle.std.specs.declared.ops.Bound.TheVariants.{Included, Unbounded}
use Rattle.std.specs.BTreeMap.{BTreeMap, IsOrdered, Updates, UpdatesBy, get, is_at}
use Rattle.std.proofs.lemmas.Cmp.{by_ranked}
use Rattle.std.proofs.lemmas.Map.Lookups.{CmpEqualImpliesEq}
use Rattle.std.proofs.lemmas.Map.Views.{btree_map_get_iff, IfSome-get}
use Rattle.std.proofs.lemmas.Map.Keys.{sorted_tail}
use Rattle.std.proofs.lemmas.Map.Views.{All-after_first}
use Rattle.std.specs.List.Sorted.{IsStrictlySortedBy}
use Rattle.std.specs.Map.{lookup, keys_of}
use Rattle.ipnet_base.proofs.ListLaws.{contains_nil, contains_cases, pairs_cons, all_at}
use Rattle.ipnet_base.specs.Blocks.{IsAscending}
use Rattle.ipnet_base.specs.Network.{IsBefore}
use Rattle.ipnet_base.proofs.OrderLaws.{IsBefore-asymmetric, IsBefore-transitive}
use Rattle.ipnet.specs.declared.net.IpNet.{IpNet}
use Rattle.ipnet.specs.NetworkOf.{ip_network}
use Rattle.ipnet.specs.NetLaws.{ip_one_to_one}
use Rattle.ipnet_pools.specs.Leases.{HasLeaseOf, IsLastNotAfter, networks_of_leases}
use Rattle.ipnet_pools.proofs.MappedLaws.{contains_map, map_contains}

-- the order of networks
abbrev Before : IpNet → IpNet → Type 0
Before a b = IsBefore (ip_network a) (ip_network b)

-- the comparison says how the networks are ordered
abbrev pub IsRanking : (IpNet → IpNet → Ordering) → Type 0
IsRanking cmp = (a b : IpNet) → MatchOrdering (cmp a b) (Before a b) (ip_network a ≡ ip_network b) (Before b a)

same_value : (r : Ordering) (a b : IpNet) → MatchOrdering r (Before a b) (ip_network a ≡ ip_network b) (Before b a)
    → MatchOrdering r (Before a b) (a ≡ b) (Before b a)
same_value Less a b h = h
same_value Equal a b h = ip_one_to_one a b h
same_value Greater a b h = h

module _ (cmp : IpNet → IpNet → Ordering) (ranking : IsRanking cmp) where
  ranks : (a b : IpNet) → MatchOrdering (cmp a b) (Before a b) (a ≡ b) (Before b a)
  ranks a b = same_value (cmp a b) a b (ranking a b)

  never_before : (a : IpNet) → ¬ (Before a a)
  never_before a h = IsBefore-asymmetric (ip_network a) (ip_network a) h h

  pub total : IsTotalOrder cmp
  total =
      strict Before never_before (λ a b d. IsBefore-transitive (ip_network a) (ip_network b) (ip_network d)) cmp ranks

  pub exact : CmpEqualImpliesEq cmp
  exact a b e = by_ranked (Before a b) (a ≡ b) (Before b a) (cmp a b) (ranks a b) (λ f _. absurd (cc)) (λ _ same. same)
      (λ f _. absurd (cc))

  -- a network is found by itself
  pub at_itself : (k q : IpNet) → k ≡ q → is_at (cmp k) q ≡ true
  at_itself k q same = by_ranked (Before k q) (k ≡ q) (Before q k) (cmp k q) (ranks k q)
      (λ _ h. absurd (never_before q (subst (λ z. Before z q) same h))) (λ e _. ap is_eq e)
      (λ _ h. absurd (never_before q (subst (λ z. Before q z) same h)))

  found_at : (k q : IpNet) → is_at (cmp k) q ≡ true → k ≡ q
  found_at k q e = by_ranked (Before k q) (k ≡ q) (Before q k) (cmp k q) (ranks k q)
      (λ f _. absurd (let no : is_eq Less ≡ true = ap is_eq (sym f) ∙ e in cc)) (λ _ same. same)
      (λ f _. absurd (let no : is_eq Greater ≡ true = ap is_eq (sym f) ∙ e in cc))

  module _ {V : Type 0} (m n : BTreeMap IpNet V) (k : IpNet) (old : IsOrdered cmp m) (new : IsOrdered cmp n) where
    inserted_forth : (v : V) (q : IpNet) (w : V) (b : Bool) → is_at (cmp k) q ≡ b → get cmp n q ≡ Some w
        → get cmp n q ≡ cond b (Some v) (get cmp m q) → Contains m.entries (q, w) ⊎ ((q ≡ k) × (w ≡ v))
    inserted_forth v q w true at is e =
        let same : Some w ≡ Some v = sym is ∙ e in inr (sym (found_at k q at), cc)
    inserted_forth v q w false at is e = inl ((btree_map_get_iff total exact m old q w).0 (sym e ∙ is))

    inserted_back : (v : V) (q : IpNet) (w : V) (b : Bool) → is_at (cmp k) q ≡ b → ¬ (HasLeaseOf m.entries k)
        → get cmp n q ≡ cond b (Some v) (get cmp m q) → Contains m.entries (q, w) → get cmp n q ≡ Some w
    inserted_back v q w true at none e c =
        absurd (none (w, subst (λ z. Contains m.entries (z, w)) (sym (found_at k q at)) c))
    inserted_back v q w false at none e c = e ∙ (btree_map_get_iff total exact m old q w).1 c

    inserted_here : (v : V) (q : IpNet) → get cmp n q ≡ cond (is_at (cmp k) q) (Some v) (get cmp m q) → q ≡ k
        → get cmp n q ≡ Some v
    inserted_here v q e same = e ∙ ap (λ b. cond b (Some v) (get cmp m q)) (at_itself k q (sym same))

    pub inserted : (v : V) → Updates cmp m n k (Some v) → ¬ (HasLeaseOf m.entries k) → (q : IpNet) (w : V)
        → Contains n.entries (q, w) ↔ (Contains m.entries (q, w) ⊎ ((q ≡ k) × (w ≡ v)))
    inserted v u none q w = (
      λ c. inserted_forth v q w (is_at (cmp k) q) refl ((btree_map_get_iff total exact n new q w).1 c) (u.0 q),
      λ h. (btree_map_get_iff total exact n new q w).0 (elim h [
        | inl c ↦ inserted_back v q w (is_at (cmp k) q) refl none (u.0 q) c
        | inr here ↦ inserted_here v q (u.0 q) here.0 ∙ ap Some (sym here.1)
      ]),
    )

    removed_forth : (q : IpNet) (w : V) (b : Bool) → is_at (cmp k) q ≡ b → get cmp n q ≡ Some w
        → get cmp n q ≡ cond b None (get cmp m q) → Contains m.entries (q, w) × ¬ (q ≡ k)
    removed_forth q w true at is e = let none : Some w ≡ None = sym is ∙ e in absurd (cc)
    removed_forth q w false at is e = (
      (btree_map_get_iff total exact m old q w).0 (sym e ∙ is),
      λ same. let yes : is_at (cmp k) q ≡ true = at_itself k q (sym same) in cc,
    )

    removed_back : (q : IpNet) (w : V) (b : Bool) → is_at (cmp k) q ≡ b → ¬ (q ≡ k)
        → get cmp n q ≡ cond b None (get cmp m q) → Contains m.entries (q, w) → get cmp n q ≡ Some w
    removed_back q w true at other e c = absurd (other (sym (found_at k q at)))
    removed_back q w false at other e c = e ∙ (btree_map_get_iff total exact m old q w).1 c

    pub removed : UpdatesBy cmp (cmp k) m n None → (q : IpNet) (w : V)
        → Contains n.entries (q, w) ↔ (Contains m.entries (q, w) × ¬ (q ≡ k))
    removed u q w = (
      λ c. removed_forth q w (is_at (cmp k) q) refl ((btree_map_get_iff total exact n new q w).1 c) (u.0 q),
      λ h. (btree_map_get_iff total exact n new q w).0 (removed_back q w (is_at (cmp k) q) refl h.1 (u.0 q) h.0),
    )

  not_missing : {V : Type 0} (e : IpNet × V) (es : List (IpNet × V)) (k : IpNet) (v : V) (b : Bool)
      → is_at (cmp k) e.0 ≡ b → ((e ≡ (k, v)) ⊎ ¬ (lookup (is_at (cmp k)) es ≡ None))
      → cond b (Some e.1) (lookup (is_at (cmp k)) es) ≡ None → ⊥
  not_missing e es k v true at h none = absurd (cc)
  not_missing e es k v false at (inl same) none =
      let yes : is_at (cmp k) e.0 ≡ true = at_itself k e.0 (sym (ap (λ z. z.0) same)) in cc
  not_missing e es k v false at (inr rest) none = rest none

  -- a lease is found by its network
  pub found_lease : {V : Type 0} (es : List (IpNet × V)) (k : IpNet) (v : V) → Contains es (k, v)
      → lookup (is_at (cmp k)) es ≡ None → ⊥
  found_lease [] k v c none = contains_nil (k, v) c
  found_lease (e ∷ es) k v c none = not_missing e es k v (is_at (cmp k) e.0) refl (elim (contains_cases e es (k, v) c) [
    | inl same ↦ inl same
    | inr rest ↦ inr (found_lease es k v rest)
  ]) none

  module _ {V : Type 0} (m : BTreeMap IpNet V) (k : IpNet) where
    pub value_found : (r : Option V) → r ≡ get cmp m k → IfSome r (λ v. Contains m.entries (k, v))
    value_found r e = subst (λ z. IfSome z (λ v. Contains m.entries (k, v))) (sym e) (IfSome-get total exact m k)

    pub value_missing : (r : Option V) → r ≡ get cmp m k → IfNone r (¬ (HasLeaseOf m.entries k))
    value_missing (Some v) e = tt
    value_missing None e = λ h. found_lease m.entries k h.0 h.1 (sym e)

    pub borrowed_found : (r : Option (Bor V)) → option_copied r ≡ get cmp m k
        → IfSome r (λ v. Contains m.entries (k, v.now))
    borrowed_found (Some b) e = value_found (Some b.now) e
    borrowed_found None e = tt

    pub borrowed_missing : (r : Option (Bor V)) → option_copied r ≡ get cmp m k → IfNone r (¬ (HasLeaseOf m.entries k))
    borrowed_missing (Some b) e = tt
    borrowed_missing None e = value_missing None e

  some_value : {X : Type 0} (v w : X) → Some v ≡ Some w → v ≡ w
  some_value v w e = cc

  -- a network of an ordered map has one value
  pub one_value : {V : Type 0} (m : BTreeMap IpNet V) → IsOrdered cmp m → (n : IpNet) (v w : V)
      → Contains m.entries (n, v) → Contains m.entries (n, w) → v ≡ w
  one_value m ordered n v w c d =
      some_value v w (sym ((btree_map_get_iff total exact m ordered n v).1 c)
      ∙ (btree_map_get_iff total exact m ordered n w).1 d)

  less_before : (a b : IpNet) → cmp a b ≡ Less → Before a b
  less_before a b e = by_ranked (Before a b) (a ≡ b) (Before b a) (cmp a b) (ranks a b) (λ _ before. before)
      (λ f _. absurd (cc)) (λ f _. absurd (cc))

  -- the networks of an ordered map ascend
  ascending_entries : {V : Type 0} (es : List (IpNet × V)) → IsStrictlySortedBy cmp (keys_of es)
      → IsAscending (networks_of_leases es)
  ascending_entries [] sorted = λ i j d l m. absurd (omega (arith, m))
  ascending_entries (e ∷ es) sorted =
      pairs_cons IsBefore (ip_network e.0) (networks_of_leases es)
      (λ y c.
      let (f, is, member) = map_contains (λ lease. ip_network lease.0) es y c in
      subst (IsBefore (ip_network e.0)) is (less_before e.0 f.0
      (all_at (λ q. cmp e.0 q ≡ Less) (keys_of es) (All-after_first cmp e.0 (keys_of es) sorted) f.0
      (contains_map (λ lease. lease.0) es f member))))
      (ascending_entries es (sorted_tail cmp e.0 (keys_of es) sorted))

  pub ascending : {V : Type 0} (m : BTreeMap IpNet V) → IsOrdered cmp m → IsAscending (networks_of_leases m.entries)
  ascending m ordered = ascending_entries m.entries ordered

  not_greater : (a b : IpNet) → is_gt (cmp a b) ≡ false → ¬ (Before b a)
  not_greater a b e h = by_ranked (Before a b) (a ≡ b) (Before b a) (cmp a b) (ranks a b)
      (λ _ before. IsBefore-asymmetric (ip_network a) (ip_network b) before h)
      (λ _ same. never_before b (subst (λ z. Before b z) same h))
      (λ f _. let no : is_gt Greater ≡ false = ap is_gt (sym f) ∙ e in absurd (cc))

  not_less : (a b : IpNet) → is_lt (cmp a b) ≡ false → ¬ (Before a b)
  not_less a b e h = by_ranked (Before a b) (a ≡ b) (Before b a) (cmp a b) (ranks a b)
      (λ f _. let no : is_lt Less ≡ false = ap is_lt (sym f) ∙ e in absurd (cc))
      (λ _ same. never_before b (subst (λ z. Before z b) same h))
      (λ _ after. IsBefore-asymmetric (ip_network a) (ip_network b) h after)

  pub up_to : (a b : IpNet) → ¬ (Before b a) → is_gt (cmp a b) ≡ false
  up_to a b h = by_ranked (Before a b) (a ≡ b) (Before b a) (cmp a b) (ranks a b)
      (λ f _. ap is_gt f) (λ f _. ap is_gt f) (λ _ after. absurd (h after))

  -- if the first network is not after the second, they are one or the first is before the second
  pub order_after : (a b : IpNet) → is_gt (cmp a b) ≡ false → (ip_network b ≡ ip_network a) ⊎ Before a b
  order_after a b e = by_ranked (Before a b) (a ≡ b) (Before b a) (cmp a b) (ranks a b) (λ _ before. inr before)
      (λ _ same. inl (ap ip_network (sym same))) (λ _ after. absurd (not_greater a b e after))

  before_or_not : (a b : IpNet) → Before b a ⊎ ¬ (Before b a)
  before_or_not a b = by_ranked (Before a b) (a ≡ b) (Before b a) (cmp a b) (ranks a b)
      (λ _ before. inr (λ h. IsBefore-asymmetric (ip_network a) (ip_network b) before h))
      (λ _ same. inr (λ h. never_before b (subst (λ z. Before b z) same h)))
      (λ _ after. inl after)

  is_some_from : {V : Type 0} (o : Option V) (v : V) → o ≡ Some v → IsSome o
  is_some_from o v e = subst IsSome (sym e) refl

  module _ {V : Type 0} (m : BTreeMap IpNet V) (at : IpNet) (ordered : IsOrdered cmp m) (r : List (IpNet × V))
      (range : IsRangeOf cmp Unbounded (Included at) m r) where
    pub last_found : (o : Option (Bor IpNet × Bor V)) (t : List (IpNet × V)) → TakesLast deref_pair r o t
        → IfSome o (λ p. Contains m.entries (p.0.now, p.1.now) × IsLastNotAfter m.entries at p.0.now)
    last_found (Some p) t e =
        let here = range.3 (p.0.now, p.1.now) t e in (
          (btree_map_get_iff total exact m ordered p.0.now p.1.now).0 here.1,
          record {
            not_after = not_greater p.0.now at here.0.1;
            last = λ q h up. not_less p.0.now q (range.4 (p.0.now, p.1.now) t e q (tt, up_to q at up)
                (is_some_from (get cmp m q) h.0 ((btree_map_get_iff total exact m ordered q h.0).1 h.1)));
          },
        )
    last_found None t e = tt

    pub last_missing : (o : Option (Bor IpNet × Bor V)) (t : List (IpNet × V)) → TakesLast deref_pair r o t
        → IfNone o ((k : IpNet) → HasLeaseOf m.entries k → Before at k)
    last_missing (Some p) t e = tt
    last_missing None t e = λ k h. elim (before_or_not k at) [
      | inl after ↦ after
      | inr up ↦
          let none : get cmp m k ≡ None = range.5 e.0 k (tt, up_to k at up) in
          let some : get cmp m k ≡ Some h.0 = (btree_map_get_iff total exact m ordered k h.0).1 h.1 in
          let wrong : Some h.0 ≡ None = sym some ∙ none in
          absurd (cc)
    ]
