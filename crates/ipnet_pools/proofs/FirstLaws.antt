-- The first key at or after a request is the key of the smallest and first network for it.
use Rattle.std.proofs.Common.{◌≡◌, ℕ, ◌<◌, ◌≤◌, ◌⊎◌, false, List, [], ◌∷◌, Contains, inl, inr}
use Rattle.std.proofs.Common.{refl, sym, ap, ◌∙◌, subst, arith, Ordering, Less, Equal, Greater, nat_cmp, IsTrue}
use Rattle.std.proofs.Common.{IfSome}
use Rattle.std.specs.Cmp.{ranks}
use Rattle.std.specs.List.{slice_get}
use Rattle.std.specs.Ordering.{ordering_then, is_gt}
use Rattle.std.specs.BTreeMap.Range.{IsLeBy}
use Rattle.std.specs.BTreeSet.{BTreeSet, IsKeyRangeOf, contains}
use Rattle.std.specs.declared.ops.Bound.TheVariants.{Included, Unbounded}
use Rattle.std.proofs.lemmas.Cmp.{by_ranked}
use Rattle.ipnet_base.specs.Address.{IPv4, family_index, width}
use Rattle.ipnet_base.specs.Network.{Network, IsBefore}
use Rattle.ipnet_base.proofs.FamilyLaws.{same_family_from_index}
use Rattle.ipnet.specs.declared.net.IpNet.{IpNet}
use Rattle.ipnet.specs.NetworkOf.{ip_network}
use Rattle.ipnet.specs.NetLaws.{ip_valid}
use Rattle.ipnet_pools.specs.declared.block_set.BlockKey.{BlockKey}
use Rattle.ipnet_pools.specs.BlockKeys.{IsKey, AreKeys, networks_of_keys}
use Rattle.ipnet_pools.specs.FitSteps.{HasRequested, IsFirstFor}
use Rattle.ipnet_pools.proofs.LeaseLaws.{IsRanking, up_to, order_after}
use Rattle.ipnet_pools.proofs.KeyLaws.{key_cmp, has_key, network_in, key_in}

then_le : (r s : Ordering) → (r ≡ Less) ⊎ ((r ≡ Equal) × (is_gt s ≡ false)) → is_gt (ordering_then r s) ≡ false
then_le r s (inl e) = ap (λ z. is_gt (ordering_then z s)) e
then_le r s (inr (e, h)) = ap (λ z. is_gt (ordering_then z s)) e ∙ h

le_then : (r s : Ordering) → is_gt (ordering_then r s) ≡ false → (r ≡ Less) ⊎ ((r ≡ Equal) × (is_gt s ≡ false))
le_then Less s h = inl refl
le_then Equal s h = inr (refl, h)
le_then Greater s h = absurd (cc)

nat_le : (x y : ℕ) → x ≤ y → (nat_cmp x y ≡ Less) ⊎ ((nat_cmp x y ≡ Equal) × (x ≡ y))
nat_le x y le = by_ranked (x < y) (x ≡ y) (y < x) (nat_cmp x y) (ranks x y) (λ e _. inl e) (λ e same. inr (e, same))
    (λ _ more. absurd (omega (arith, le, more)))

nat_less : (x y : ℕ) → nat_cmp x y ≡ Less → x < y
nat_less x y e = by_ranked (x < y) (x ≡ y) (y < x) (nat_cmp x y) (ranks x y) (λ _ lt. lt) (λ f _. absurd (cc))
    (λ f _. absurd (cc))

nat_equal : (x y : ℕ) → nat_cmp x y ≡ Equal → x ≡ y
nat_equal x y e = by_ranked (x < y) (x ≡ y) (y < x) (nat_cmp x y) (ranks x y) (λ f _. absurd (cc)) (λ _ same. same)
    (λ f _. absurd (cc))

-- no network is before 0.0.0.0/0
pub none_before : (n : Network) → n.family ≡ IPv4 → n.number ≡ 0 → n.prefix_len ≡ 0 → (b : Network) → ¬ (IsBefore b n)
none_before n f a l b (inl lt) = omega (arith, lt, ap family_index f)
none_before n f a l b (inr (_, inl lt)) = omega (arith, lt, a)
none_before n f a l b (inr (_, inr (_, lt))) = omega (arith, lt, l)

module _ (ip : IpNet → IpNet → Ordering) (ranking : IsRanking ip) where
  -- the first key is not after the second: by family, by host bits, and then by network
  key_le : (a b : BlockKey) → is_gt (key_cmp ip a b) ≡ false
      → (a.family < b.family) ⊎ ((a.family ≡ b.family) × ((a.host_bits < b.host_bits)
      ⊎ ((a.host_bits ≡ b.host_bits) × (is_gt (ip a.network b.network) ≡ false))))
  key_le a b h = elim (le_then (nat_cmp a.family b.family)
      (ordering_then (nat_cmp a.host_bits b.host_bits) (ip a.network b.network)) h) [
        | inl e ↦ inl (nat_less a.family b.family e)
        | inr (e, i) ↦ inr (
          nat_equal a.family b.family e,
          elim (le_then (nat_cmp a.host_bits b.host_bits) (ip a.network b.network) i) [
            | inl f ↦ inl (nat_less a.host_bits b.host_bits f)
            | inr (f, j) ↦ inr (nat_equal a.host_bits b.host_bits f, j)
          ],
        )
      ]

  module _ (s : BTreeSet BlockKey) (keys : AreKeys s.keys) (start key : BlockKey) (is_key : IsKey key)
      (family : start.family ≡ key.family) (bits : start.host_bits ≡ key.host_bits)
      (least : (b : IpNet) → ¬ (IsBefore (ip_network b) (ip_network start.network))) (r : List BlockKey)
      (range : IsKeyRangeOf (key_cmp ip) (Included start) Unbounded s r) where
    abbrev asked : Network
    asked = ip_network key.network

    -- the key of each network that the request can use lies in the range
    in_range : (q : BlockKey) → IsKey q → HasRequested asked (ip_network q.network) → is_gt (key_cmp ip start q) ≡ false
    in_range q k req = then_le (nat_cmp start.family q.family)
        (ordering_then (nat_cmp start.host_bits q.host_bits) (ip start.network q.network))
        (inr (
          equal_cmp start.family q.family
              (family ∙ is_key.family ∙ ap family_index (sym req.of_family) ∙ sym k.family),
          then_le (nat_cmp start.host_bits q.host_bits) (ip start.network q.network)
              (elim (nat_le start.host_bits q.host_bits (omega (
                arith,
                bits,
                is_key.host_bits,
                k.host_bits,
                req.enough,
                ap width req.of_family,
              ))) [
                | inl e ↦ inl e
                | inr e ↦ inr (e.0, up_to ip ranking start.network q.network (least q.network))
              ]),
        ))
      where
        equal_cmp : (x y : ℕ) → x ≡ y → nat_cmp x y ≡ Equal
        equal_cmp x y e =
            by_ranked (x < y) (x ≡ y) (y < x) (nat_cmp x y) (ranks x y) (λ _ lt. absurd (omega (arith, lt, e)))
            (λ f _. f) (λ _ gt. absurd (omega (arith, gt, e)))

    pub none_if_empty : r ≡ [] → (n : Network) → Contains (networks_of_keys s.keys) n → ¬ (HasRequested asked n)
    none_if_empty empty n c req =
        let (q, same, d) = key_in s.keys n c in
        let in_set : IsTrue (contains (key_cmp ip) s q) = (has_key ip ranking s q).1 d in
        let out : contains (key_cmp ip) s q ≡ false =
        range.5 empty q (in_range q (keys q d) (subst (HasRequested asked) (sym same) req), tt) in
        absurd (cc)

    module _ (e : BlockKey) (t : List BlockKey) (step : r ≡ e ∷ t) where
      first_in : IsTrue (contains (key_cmp ip) s e) × (is_gt (key_cmp ip start e) ≡ false)
      first_in =
          let h = subst (λ z. IfSome (slice_get z 0) (λ k. (IsLeBy (key_cmp ip) start k × Unit {0})
          × IsTrue (contains (key_cmp ip) s k))) step range.1 in
          (h.1, h.0.0)

      first_le : (q : BlockKey) → Contains s.keys q → HasRequested asked (ip_network q.network)
          → is_gt (key_cmp ip e q) ≡ false
      first_le q d req =
          subst (λ z. IfSome (slice_get z 0) (λ k. IsLeBy (key_cmp ip) k q)) step
          (range.2 q (in_range q (keys q d) req, tt) ((has_key ip ranking s q).1 d))

      first_key : Contains s.keys e
      first_key = (has_key ip ranking s e).0 first_in.0

      family_le : key.family ≤ e.family
      family_le = elim (key_le start e first_in.1) [
        | inl lt ↦ omega (arith, lt, family)
        | inr h ↦ omega (arith, h.0, family)
      ]

      pub none_of_family : ¬ (e.family ≡ key.family) → (n : Network) → Contains (networks_of_keys s.keys) n
          → ¬ (HasRequested asked n)
      none_of_family other n c req =
          let (q, same, d) = key_in s.keys n c in
          let of_q = subst (HasRequested asked) (sym same) req in
          let q_family : q.family ≡ key.family =
          (keys q d).family ∙ ap family_index of_q.of_family ∙ sym is_key.family in
          let le : e.family ≤ q.family = elim (key_le e q (first_le q d of_q)) [
            | inl lt ↦ omega (arith, lt)
            | inr h ↦ omega (arith, h.0)
          ] in
          other (omega (arith, le, q_family, family_le))

      pub first_found : e.family ≡ key.family → IsFirstFor (networks_of_keys s.keys) asked (ip_network e.network)
      first_found same_family =
          let k = keys e first_key in
          let of_family : (ip_network e.network).family ≡ asked.family =
          same_family_from_index (ip_network e.network).family asked.family
          (sym k.family ∙ same_family ∙ is_key.family) in
          let more : start.host_bits ≤ e.host_bits = elim (key_le start e first_in.1) [
            | inl lt ↦ absurd (omega (arith, lt, family, same_family))
            | inr (_, inl lt) ↦ omega (arith, lt)
            | inr (_, inr h) ↦ omega (arith, h.0)
          ] in
          record {
            member = network_in s.keys e first_key;
            requested = record {
              of_family = of_family;
              enough = omega (
                arith,
                more,
                bits,
                is_key.host_bits,
                k.host_bits,
                (ip_valid e.network).prefix_fits,
                (ip_valid key.network).prefix_fits,
                ap width of_family,
              );
            };
            smallest = λ n c req.
                let (q, same, d) = key_in s.keys n c in
                let of_q = subst (HasRequested asked) (sym same) req in
                let q_key = keys q d in
                let widths : width (ip_network q.network).family ≡ width (ip_network e.network).family =
                ap width (of_q.of_family ∙ sym of_family) in
                subst (λ z. (z.prefix_len < (ip_network e.network).prefix_len)
                ⊎ ((z.prefix_len ≡ (ip_network e.network).prefix_len)
                × ((z ≡ ip_network e.network) ⊎ IsBefore (ip_network e.network) z))) same
                (elim (key_le e q (first_le q d of_q)) [
                  | inl lt ↦ absurd (omega (
                    arith,
                    lt,
                    same_family,
                    q_key.family,
                    is_key.family,
                    ap family_index of_q.of_family,
                  ))
                  | inr (_, inl lt) ↦ inl (omega (
                    arith,
                    lt,
                    k.host_bits,
                    q_key.host_bits,
                    widths,
                    (ip_valid q.network).prefix_fits,
                    (ip_valid e.network).prefix_fits,
                  ))
                  | inr (_, inr h) ↦ inr (
                    omega (
                      arith,
                      h.0,
                      k.host_bits,
                      q_key.host_bits,
                      widths,
                      (ip_valid q.network).prefix_fits,
                      (ip_valid e.network).prefix_fits,
                    ),
                    order_after ip ranking e.network q.network h.1,
                  )
                ]);
          }
