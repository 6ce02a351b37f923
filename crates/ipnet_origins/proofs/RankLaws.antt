-- The payloads of one network in the order of their ranks: the last one of an origin decides.
use Rattle.std.proofs.Common.{◌≡◌, ◌↔◌, ℕ, ◌+◌, ◌-◌, ◌*◌, ◌<◌, ◌≤◌, true, false, List, length, get_or, Contains, Any}
use Rattle.std.proofs.Common.{Some, None, leb, sym, ap, ◌∙◌, subst, arith, inl, inr}
use Rattle.std.specs.List.Sorted.{IsNonDecreasingBy, IsPartitionPoint}
use Rattle.std.proofs.lemmas.Bool.{cases_lt, le-leb, leb-true}
use Rattle.ipnet_base.specs.Address.{Family, IPv4, IPv6, width}
use Rattle.ipnet_base.specs.Network.{Network, InBlock}
use Rattle.ipnet_base.proofs.ListLaws.{any_from_contains, at_place}
use Rattle.ipnet.specs.NetworkParts.{own_address}
use Rattle.ipnet_origins.specs.declared.payload.Payload.{Payload}
use Rattle.ipnet_origins.specs.Groups.{network_of, rank_of, AreOfOne}
use Rattle.ipnet_origins.specs.Origins.{IsMatched}

-- the greatest length is less than 256
pub short : (vrp : Payload) → vrp.max_len < 256
short vrp = go (network_of vrp).family vrp.at_most
  where
    go : (f : Family) → vrp.max_len ≤ width f → vrp.max_len < 256
    go IPv4 h = omega (arith, h)
    go IPv6 h = omega (arith, h)

-- no payload matches a route without a single origin
pub none_of_none : (vrps : List Payload) (n : Network) → ¬ (Any (IsMatched n None) vrps)
none_of_none vrps n (i, vrp, l, e, m) = let clash = m.same_origin in absurd cc

module _ (vrps : List Payload) (n : Network) (asn most end : ℕ) (is : most ≡ asn * 256 + 255)
    (point : IsPartitionPoint (λ vrp. leb (rank_of vrp) most ≡ true) (λ vrp. leb (rank_of vrp) most ≡ false) vrps end)
  where
    -- a payload that matches is before the end
    before_end : (i : ℕ) (vrp : Payload) → i < length vrps → get_or vrps i vrp ≡ vrp → IsMatched n (Some asn) vrp
        → i < end
    before_end i vrp l e m = elim (cases_lt i end) [
      | inl low ↦ low
      | inr past ↦
          let same : asn ≡ vrp.asn = let o = m.same_origin in cc in
          let not : leb (rank_of vrp) most ≡ false
          = ap (λ z. leb (rank_of z) most) (sym e) ∙ point.1 i vrp past l in
          let yes : leb (rank_of vrp) most ≡ true
          = le-leb (rank_of vrp) most (omega (arith, is, same, short vrp)) in
          absurd (cc)
    ]

    pub none_ranked : end ≡ 0 → ¬ (Any (IsMatched n (Some asn)) vrps)
    none_ranked zero (i, vrp, l, e, m) = omega (arith, zero, before_end i vrp l e m)

    -- the payload before the end matches if one does
    pub last_decides : 0 < end → end ≤ length vrps → AreOfOne vrps → IsNonDecreasingBy rank_of vrps → (last : Payload)
        → last ≡ get_or vrps (end - 1) last → IsMatched n (Some asn) last ↔ Any (IsMatched n (Some asn)) vrps
    last_decides some inside one ranked last at = (
      any_from_contains (IsMatched n (Some asn)) vrps last here,
      λ (i, vrp, l, e, m).
          let low = before_end i vrp l e m in
          let same : asn ≡ vrp.asn = let o = m.same_origin in cc in
          let below : rank_of last ≤ most = leb-true (rank_of last) most
          (ap (λ z. leb (rank_of z) most) at ∙ point.0 (end - 1) last (omega arith) (omega (arith, some))) in
          let above : rank_of vrp ≤ rank_of last = omega (
            arith,
            ranked i (end - 1) vrp (omega (arith, low)) (omega (arith, some, inside)),
            ap rank_of e,
            ap rank_of (at_place vrps (end - 1) vrp last (omega (arith, some, inside)) ∙ sym at),
          ) in
          let of_asn : last.asn ≡ asn = omega (arith, is, below, above, same, short vrp, short last) in
          let network : network_of vrp ≡ network_of last = one vrp last (i, l, e) here in
          record {
            covered = record {
              no_longer = subst (λ k. k.prefix_len ≤ n.prefix_len) network m.covered.no_longer;
              same_bits = subst (λ k. InBlock k (own_address n)) network m.covered.same_bits;
            };
            within_length = omega (arith, m.within_length, above, of_asn, same);
            same_origin = ap Some (sym of_asn);
            not_zero = λ zero. m.not_zero (sym same ∙ sym of_asn ∙ zero);
          },
    )
      where
        here : Contains vrps last
        here = (end - 1, omega (arith, some, inside), sym at)
