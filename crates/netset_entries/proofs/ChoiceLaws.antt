-- The prefix length of a range: there is one at most, and it is found by the smallest network around the ends.
use Rattle.std.proofs.Common.{◌≡◌, ◌≤◌, ◌↔◌, ◌-◌, ◌/◌, ◌^◌, ℕ, Bool, false, IsTrue, Option, Some}
use Rattle.std.proofs.Common.{refl, sym, ap, ◌∙◌, subst, arith}
use Rattle.ipnet_base.specs.Address.{Address, IPv4, IPv6, address_at, width}
use Rattle.ipnet_base.specs.Network.{Network, IsNetwork, InBlock, IsSubnetOf, IsLeastOf, IsGreatestOf, host_bits}
use Rattle.ipnet_base.specs.Ranges.{AddressRange}
use Rattle.ipnet_base.proofs.BlockLaws.{own, own_in, block_is_between, between_from_block, block_from_between}
use Rattle.ipnet_base.proofs.NestingLaws.{bits_from_subnet}
use Rattle.ipnet_base.proofs.NetworkLaws.{same_len_from_bits}
use Rattle.ipnet.specs.NetworkParts.{network_at}
use Rattle.ipnet_sets.specs.CommonSupernets.{IsCommonSupernet}
use Rattle.ipnet_sets.specs.SetRanges.{IsInRange}
use Rattle.ipnet_lists.specs.Entries.{block_range}
use Rattle.netset_entries.specs.Choices.{HasPrefixLen, IsInBounds, bounds_for}
use Rattle.netset_entries.specs.declared.choice.EntryChoice.{EntryChoice}
use Rattle.netset_entries.specs.declared.choice.LengthBounds.{LengthBounds}

-- networks with the same addresses have one prefix length
pub one_length : (range : AddressRange) (p q : ℕ) → HasPrefixLen range p → HasPrefixLen range q → p ≡ q
one_length range p q h k =
    let to : IsSubnetOf h.network k.network = λ x a. (k.same x).0 ((h.same x).1 a) in
    let back : IsSubnetOf k.network h.network = λ x a. (h.same x).0 ((k.same x).1 a) in
    let bits : host_bits h.network ≡ host_bits k.network
    = omega (arith, bits_from_subnet h.network k.network to, bits_from_subnet k.network h.network back) in
    let family = (to (own h.network) (own_in h.network)).same_family in
    sym h.is_len ∙ same_len_from_bits h.network k.network h.is_network k.is_network family bits ∙ k.is_len

-- the block of an address has no other address
one_address : (a x : Address) → InBlock (network_at a (width a.family)) x → x ≡ a
one_address a x h = λ i. record { family = h.same_family i; number = number i }
  where
    zero_bits : width a.family - width a.family ≡ 0
    zero_bits = omega arith

    whole : (n : ℕ) → n / 2 ^ 0 ≡ n
    whole n = omega arith

    number : x.number ≡ a.number
    number =
        let e : x.number / 2 ^ 0 ≡ a.number / 2 ^ 0
        = subst (λ m. x.number / 2 ^ m ≡ a.number / 2 ^ m) zero_bits h.same_prefix in
        sym (whole x.number) ∙ e ∙ whole a.number

module _ (r : AddressRange) (a b : Address) (n k s : Network) (is_a : a ≡ address_at r.family r.start)
    (is_b : b ≡ address_at r.family r.end) (of_a : n ≡ network_at a (width a.family))
    (of_b : k ≡ network_at b (width b.family)) (common : IsCommonSupernet n k s) where
  first_in : InBlock s a
  first_in = common.first a (subst (λ z. InBlock z a) (sym of_a) (own_in (network_at a (width a.family))))

  last_in : InBlock s b
  last_in = common.second b (subst (λ z. InBlock z b) (sym of_b) (own_in (network_at b (width b.family))))

  -- the smallest network around the ends lies in each network that has them
  smallest : (o : Network) → IsNetwork o → InBlock o a → InBlock o b → IsSubnetOf s o
  smallest o is first last = common.smallest o is
      (λ x y. subst (InBlock o) (sym (one_address a x (subst (λ z. InBlock z x) of_a y))) first)
      (λ x y. subst (InBlock o) (sym (one_address b x (subst (λ z. InBlock z x) of_b y))) last)

  -- if the range has a prefix length, an address of that network is in the range
  inside : (len : ℕ) → HasPrefixLen r len → (x : Address) → InBlock s x → IsInRange r x
  inside len h x in_s =
      let o = h.network in
      let some = (h.same (own o)).1 (own_in o) in
      let first = (h.same (address_at r.family r.start)).0 (record {
        of_family = refl;
        from_start = omega arith;
        to_end = omega (arith, some.from_start, some.to_end);
      }) in
      let last = (h.same (address_at r.family r.end)).0 (record {
        of_family = refl;
        from_start = omega (arith, some.from_start, some.to_end);
        to_end = omega arith;
      }) in
      (h.same x).1 (smallest o h.is_network (subst (InBlock o) (sym is_a) first) (subst (InBlock o) (sym is_b) last) x
      in_s)

  pub first_is_least : (low : Address) → IsLeastOf s low → (len : ℕ) → HasPrefixLen r len
      → (a.family ≡ low.family) × (a.number ≤ low.number)
  first_is_least low least len h =
      let there = inside len h low least.inside in (
        ap (λ z. z.family) is_a ∙ sym there.of_family,
        omega (arith, ap (λ z. z.number) is_a, there.from_start),
      )

  pub last_is_greatest : (high : Address) → IsGreatestOf s high → (len : ℕ) → HasPrefixLen r len
      → (high.family ≡ b.family) × (high.number ≤ b.number)
  last_is_greatest high greatest len h =
      let there = inside len h high greatest.inside in (
        there.of_family ∙ sym (ap (λ z. z.family) is_b),
        omega (arith, ap (λ z. z.number) is_b, there.to_end),
      )

  -- a network that has both ends, and no address before the first or after the last
  pub length_found : (low high : Address) → IsLeastOf s low → IsGreatestOf s high → a.number ≤ low.number
      → high.number ≤ b.number → HasPrefixLen r s.prefix_len
  length_found low high least greatest from to =
      let start = ap (λ z. z.number) is_a in
      let end = ap (λ z. z.number) is_b in
      let family : s.family ≡ r.family = sym first_in.same_family ∙ ap (λ z. z.family) is_a in record {
        network = s;
        is_network = common.network;
        same = λ x. (
          λ h. (block_is_between s low high x least greatest).1 (record {
            of_family = h.of_family ∙ sym family;
            from_start = omega (arith, h.from_start, start, least.least a first_in);
            to_end = omega (arith, h.to_end, end, greatest.greatest b last_in);
          }),
          λ y. record {
            of_family = y.same_family ∙ family;
            from_start = omega (arith, from, start, least.least x y);
            to_end = omega (arith, to, end, greatest.greatest x y);
          },
        );
        is_len = refl;
      }

-- a network has its own prefix length
pub own_length : (n : Network) → IsNetwork n → HasPrefixLen (block_range n) n.prefix_len
own_length n is = record {
  network = n;
  is_network = is;
  same = λ x. (block_from_between n x, between_from_block n x);
  is_len = refl;
}

module _ (lengths : Option LengthBounds) (bounds : LengthBounds) (range : AddressRange) (is : lengths ≡ Some bounds)
  where
    -- the prefix length of a range decides whether it is in the bounds
    pub bounds_decided : (len : ℕ) (result : Bool) → HasPrefixLen range len
        → IsTrue result ↔ ((bounds.least ≤ len) × (len ≤ bounds.most)) → IsTrue result ↔ IsInBounds lengths range
    bounds_decided len result h decides =
        subst (λ z. IsTrue result ↔ IsInBounds z range) (sym is) (
          λ yes. (len, h, (decides.0 yes).0, (decides.0 yes).1),
          λ (other, k, least, most).
              let same = one_length range other len k h in
              decides.1 (omega (arith, same, least), omega (arith, same, most)),
        )

    -- a range without a prefix length is in no bounds
    pub bounds_failed : ((len : ℕ) → ¬ (HasPrefixLen range len)) → IsTrue false ↔ IsInBounds lengths range
    bounds_failed none =
        subst (λ z. IsTrue false ↔ IsInBounds z range) (sym is)
        (λ no. absurd (cc), λ (len, h, least, most). absurd (none len h))

module _ (choice : EntryChoice) (range : AddressRange) (result : Bool) where
  -- the bounds for IPv4 decide on a range of IPv4
  pub own_ipv4 : range.family ≡ IPv4 → IsTrue result ↔ IsInBounds choice.ipv4_lengths range
      → IsTrue result ↔ IsInBounds (bounds_for choice range.family) range
  own_ipv4 is h = subst (λ f. IsTrue result ↔ IsInBounds (bounds_for choice f) range) (sym is) h

  -- the bounds for IPv6 decide on a range of IPv6
  pub own_ipv6 : range.family ≡ IPv6 → IsTrue result ↔ IsInBounds choice.ipv6_lengths range
      → IsTrue result ↔ IsInBounds (bounds_for choice range.family) range
  own_ipv6 is h = subst (λ f. IsTrue result ↔ IsInBounds (bounds_for choice f) range) (sym is) h
