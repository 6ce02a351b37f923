-- The order of the keys of a set of networks, and the networks of the set after a key is added or removed.
use Rattle.std.proofs.Common.{◌≡◌, ◌⊎◌, ◌↔◌, Bool, true, false, List, Contains, inl, inr}
use Rattle.std.proofs.Common.{refl, sym, ap, ◌∙◌, subst, Ordering, Less, Equal, Greater, nat_cmp, cond, IsTrue}
use Rattle.std.proofs.Common.{Result, Ok, Err, OnOk, OnErr}
use Rattle.std.specs.Cmp.{IsTotalOrder}
use Rattle.std.specs.Ordering.{ordering_then, ordering_reverse, is_eq}
use Rattle.std.specs.BTreeMap.{is_at}
use Rattle.std.specs.BTreeSet.{BTreeSet, IsUnchanged, Updates, UpdatesBy, contains}
use Rattle.std.proofs.lemmas.Cmp.{nat_cmp_total, then_total, on_total}
use Rattle.std.proofs.lemmas.Map.Lookups.{CmpEqualImpliesEq, exact_unsigned}
use Rattle.std.proofs.lemmas.Map.Views.{btree_set_contains_iff}
use Rattle.ipnet_base.specs.Address.{family_index}
use Rattle.ipnet_base.specs.Network.{Network, IsNetwork, host_bits}
use Rattle.ipnet.specs.declared.net.IpNet.{IpNet}
use Rattle.ipnet.specs.NetworkOf.{ip_network}
use Rattle.ipnet.specs.NetLaws.{ip_one_to_one, ip_valid}
use Rattle.ipnet_pools.specs.declared.block_set.BlockKey.{BlockKey}
use Rattle.ipnet_pools.specs.BlockKeys.{IsKey, AreKeys, networks_of_keys}
use Rattle.ipnet_pools.proofs.LeaseLaws.{IsRanking, total, exact}
use Rattle.ipnet_pools.proofs.MappedLaws.{contains_map, map_contains}

-- by family, then by host bits, then by network
abbrev pub key_cmp : (IpNet → IpNet → Ordering) → BlockKey → BlockKey → Ordering
key_cmp ip a b = ordering_then (nat_cmp a.family b.family)
    (ordering_then (nat_cmp a.host_bits b.host_bits) (ip a.network b.network))

same_fields : (a b : BlockKey) → a.family ≡ b.family → a.host_bits ≡ b.host_bits → a.network ≡ b.network → a ≡ b
same_fields a b f h n = λ i. record { family = f i; host_bits = h i; network = n i }

is_eq_gives : (r : Ordering) → is_eq r ≡ true → r ≡ Equal
is_eq_gives Less e = absurd (cc)
is_eq_gives Equal e = refl
is_eq_gives Greater e = absurd (cc)

reversed_equal : (r : Ordering) → r ≡ ordering_reverse r → r ≡ Equal
reversed_equal Less e = absurd (cc)
reversed_equal Equal e = refl
reversed_equal Greater e = absurd (cc)

-- in a total order each value is equal to itself
cmp_at_itself : {K : Type 0} {R : K → K → Ordering} → IsTotalOrder R → (k : K) → is_at (R k) k ≡ true
cmp_at_itself {K} {R} o k = ap is_eq (reversed_equal (R k k) (o.antisymm k k))

-- keys of one network are one key
same_key : (a b : BlockKey) → IsKey a → IsKey b → ip_network a.network ≡ ip_network b.network → a ≡ b
same_key a b k l same = same_fields a b
    (k.family ∙ ap (λ z. family_index z.family) same ∙ sym l.family)
    (k.host_bits ∙ ap host_bits same ∙ sym l.host_bits)
    (ip_one_to_one a.network b.network same)

then_equal : (r s : Ordering) → ordering_then r s ≡ Equal → (r ≡ Equal) × (s ≡ Equal)
then_equal Less s e = absurd (cc)
then_equal Equal s e = (refl, e)
then_equal Greater s e = absurd (cc)

-- the network of a key of the list, and the key of a network of the list
pub network_in : (keys : List BlockKey) (k : BlockKey) → Contains keys k
    → Contains (networks_of_keys keys) (ip_network k.network)
network_in keys k c = contains_map (λ q. ip_network q.network) keys k c

pub key_in : (keys : List BlockKey) (n : Network) → Contains (networks_of_keys keys) n
    → (k : BlockKey) × (ip_network k.network ≡ n) × Contains keys k
key_in keys n c = map_contains (λ q. ip_network q.network) keys n c

-- the networks of keys are networks
pub keys_valid : (keys : List BlockKey) (n : Network) → Contains (networks_of_keys keys) n → IsNetwork n
keys_valid keys n c = let (q, same, d) = key_in keys n c in subst IsNetwork same (ip_valid q.network)

module _ (ip : IpNet → IpNet → Ordering) (ranking : IsRanking ip) where
  keys_total : IsTotalOrder (key_cmp ip)
  keys_total = then_total (on_total (λ k. k.family) nat_cmp_total)
      (then_total (on_total (λ k. k.host_bits) nat_cmp_total) (on_total (λ k. k.network) (total ip ranking)))

  keys_exact : CmpEqualImpliesEq (key_cmp ip)
  keys_exact a b e =
      let first = then_equal (nat_cmp a.family b.family)
      (ordering_then (nat_cmp a.host_bits b.host_bits) (ip a.network b.network)) e in
      let second = then_equal (nat_cmp a.host_bits b.host_bits) (ip a.network b.network) first.1 in
      same_fields a b (exact_unsigned a.family b.family first.0) (exact_unsigned a.host_bits b.host_bits second.0)
      (exact ip ranking a.network b.network second.1)

  -- a key is in the list if and only if the set finds it
  pub has_key : (s : BTreeSet BlockKey) (k : BlockKey) → IsTrue (contains (key_cmp ip) s k) ↔ Contains s.keys k
  has_key s k = btree_set_contains_iff keys_total keys_exact s k

  -- so a network is in the list if and only if the set finds its key
  pub has_network : (s : BTreeSet BlockKey) (k : BlockKey) → AreKeys s.keys → IsKey k
      → IsTrue (contains (key_cmp ip) s k) ↔ Contains (networks_of_keys s.keys) (ip_network k.network)
  has_network s k keys key = (
    λ h. network_in s.keys k ((has_key s k).0 h),
    λ c.
        let (q, same, d) = key_in s.keys (ip_network k.network) c in
        (has_key s k).1 (subst (Contains s.keys) (same_key q k (keys q d) key same) d),
  )

  at_key : (k q : BlockKey) → k ≡ q → is_at (key_cmp ip k) q ≡ true
  at_key k q same = subst (λ z. is_at (key_cmp ip k) z ≡ true) same (cmp_at_itself keys_total k)

  key_at : (k q : BlockKey) → is_at (key_cmp ip k) q ≡ true → k ≡ q
  key_at k q e = keys_exact k q (is_eq_gives (key_cmp ip k q) e)

  module _ (m n : BTreeSet BlockKey) (k : BlockKey) where
    added_forth : (q : BlockKey) (b : Bool) → is_at (key_cmp ip k) q ≡ b
        → contains (key_cmp ip) n q ≡ cond b true (contains (key_cmp ip) m q) → IsTrue (contains (key_cmp ip) n q)
        → Contains m.keys q ⊎ (q ≡ k)
    added_forth q true at e h = inr (sym (key_at k q at))
    added_forth q false at e h = inl ((has_key m q).0 (sym e ∙ h))

    added_back : (q : BlockKey) (b : Bool) → is_at (key_cmp ip k) q ≡ b
        → contains (key_cmp ip) n q ≡ cond b true (contains (key_cmp ip) m q) → Contains m.keys q ⊎ (q ≡ k)
        → IsTrue (contains (key_cmp ip) n q)
    added_back q true at e h = e
    added_back q false at e (inl c) = e ∙ (has_key m q).1 c
    added_back q false at e (inr same) = let yes = at_key k q (sym same) in absurd (cc)

    added_keys : Updates (key_cmp ip) m n k true → (q : BlockKey) → Contains n.keys q ↔ (Contains m.keys q ⊎ (q ≡ k))
    added_keys u q = (
      λ c. added_forth q (is_at (key_cmp ip k) q) refl (u.0 q) ((has_key n q).1 c),
      λ h. (has_key n q).0 (added_back q (is_at (key_cmp ip k) q) refl (u.0 q) h),
    )

    removed_forth : (q : BlockKey) (b : Bool) → is_at (key_cmp ip k) q ≡ b
        → contains (key_cmp ip) n q ≡ cond b false (contains (key_cmp ip) m q) → IsTrue (contains (key_cmp ip) n q)
        → Contains m.keys q × ¬ (q ≡ k)
    removed_forth q true at e h = absurd (cc)
    removed_forth q false at e h = (
      (has_key m q).0 (sym e ∙ h),
      λ same. let yes = at_key k q (sym same) in absurd (cc),
    )

    removed_back : (q : BlockKey) (b : Bool) → is_at (key_cmp ip k) q ≡ b
        → contains (key_cmp ip) n q ≡ cond b false (contains (key_cmp ip) m q) → Contains m.keys q → ¬ (q ≡ k)
        → IsTrue (contains (key_cmp ip) n q)
    removed_back q true at e c other = absurd (other (sym (key_at k q at)))
    removed_back q false at e c other = e ∙ (has_key m q).1 c

    removed_keys : UpdatesBy (key_cmp ip) (key_cmp ip k) m n false → (q : BlockKey)
        → Contains n.keys q ↔ (Contains m.keys q × ¬ (q ≡ k))
    removed_keys u q = (
      λ c. removed_forth q (is_at (key_cmp ip k) q) refl (u.0 q) ((has_key n q).1 c),
      λ h. (has_key n q).0 (removed_back q (is_at (key_cmp ip k) q) refl (u.0 q) h.0 h.1),
    )

    pub keys_after_insert : {T E : Type 0} (r : Result T E) → OnOk r (Updates (key_cmp ip) m n k true)
        → OnErr r (IsUnchanged m n) → IsKey k → AreKeys m.keys → AreKeys n.keys
    keys_after_insert (Ok t) u same key keys q c = elim ((added_keys u q).0 c) [
      | inl d ↦ keys q d
      | inr e ↦ subst IsKey (sym e) key
    ]
    keys_after_insert (Err e) u same key keys q c = keys q (subst (λ z. Contains z q) same c)

    pub networks_after_insert : Updates (key_cmp ip) m n k true → (x : Network)
        → Contains (networks_of_keys n.keys) x
        ↔ (Contains (networks_of_keys m.keys) x ⊎ (x ≡ ip_network k.network))
    networks_after_insert u x = (
      λ c.
          let (q, same, d) = key_in n.keys x c in
          elim ((added_keys u q).0 d) [
            | inl e ↦ inl (subst (Contains (networks_of_keys m.keys)) same (network_in m.keys q e))
            | inr e ↦ inr (sym same ∙ ap (λ z. ip_network z.network) e)
          ],
      λ h. elim h [
        | inl c ↦
            let (q, same, d) = key_in m.keys x c in
            subst (Contains (networks_of_keys n.keys)) same (network_in n.keys q ((added_keys u q).1 (inl d)))
        | inr e ↦
            subst (Contains (networks_of_keys n.keys)) (sym e) (network_in n.keys k ((added_keys u k).1 (inr refl)))
      ],
    )

    pub keys_after_remove : UpdatesBy (key_cmp ip) (key_cmp ip k) m n false → AreKeys m.keys → AreKeys n.keys
    keys_after_remove u keys q c = keys q ((removed_keys u q).0 c).0

    pub networks_after_remove : UpdatesBy (key_cmp ip) (key_cmp ip k) m n false → IsKey k → AreKeys m.keys
        → (x : Network)
        → Contains (networks_of_keys n.keys) x
        ↔ (Contains (networks_of_keys m.keys) x × ¬ (x ≡ ip_network k.network))
    networks_after_remove u key keys x = (
      λ c.
          let (q, same, d) = key_in n.keys x c in
          let (old, other) = (removed_keys u q).0 d in (
            subst (Contains (networks_of_keys m.keys)) same (network_in m.keys q old),
            λ e. other (same_key q k (keys q old) key (same ∙ e)),
          ),
      λ h.
          let (q, same, d) = key_in m.keys x h.0 in
          subst (Contains (networks_of_keys n.keys)) same (network_in n.keys q
          ((removed_keys u q).1 (d, λ e. h.1 (sym same ∙ ap (λ z. ip_network z.network) e)))),
    )
