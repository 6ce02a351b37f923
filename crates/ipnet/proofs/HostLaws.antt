-- The hosts of a network: all of its block, or what lies between the two ends of the block.
use Rattle.std.proofs.Common.{◌≡◌, ◌+◌, ◌-◌, ◌^◌, ◌<◌, ◌≤◌, ◌↔◌, Contains, refl, sym, ap, ◌∙◌, arith, inl, inr, pow_pos}
use Rattle.std.proofs.lemmas.Bool.{cases_eq}
use Rattle.std.proofs.lemmas.Nat.{pow_below}
use Rattle.ipnet_base.specs.Address.{Address, IPv6, width, IsBetween}
use Rattle.ipnet_base.specs.Network.{Network, IsNetwork, host_bits, InBlock, IsLeastOf, IsGreatestOf, first_of, last_of}
use Rattle.ipnet_base.specs.Ranges.{AddressRange, addresses_of, address_count}
use Rattle.ipnet_base.proofs.BlockLaws.{at, between_from_block, block_from_between, last_fits, first_from_least}
use Rattle.ipnet_base.proofs.BlockLaws.{last_from_greatest, IsLeastOf-first, IsGreatestOf-last}
use Rattle.ipnet_base.proofs.RangeLaws.{between_from_contains, contains_from_between}
use Rattle.ipnet.specs.NetworkParts.{HasReservedEnds, IsHostRange}

-- A range from the least to the greatest address, or between these two, is the range of the hosts.
pub IsHostRange-whole : (n : Network) (hosts : AddressRange) (low high : Address) → hosts.family ≡ n.family
    → ¬ (HasReservedEnds n)
    → IsLeastOf n low → IsGreatestOf n high → hosts.start ≡ low.number → hosts.end ≡ high.number → IsHostRange n hosts
IsHostRange-whole n hosts low high f none l g start end = record {
  family = f;
  inner = λ reserved. absurd (none reserved);
  whole = λ _ x y p q. (
    start ∙ first_from_least n low l ∙ sym (first_from_least n x p),
    end ∙ last_from_greatest n high g ∙ sym (last_from_greatest n y q),
  );
}

pub IsHostRange-inner : (n : Network) (hosts : AddressRange) → hosts.family ≡ n.family → HasReservedEnds n
    → hosts.start ≡ first_of n + 1 → hosts.end + 1 ≡ last_of n → IsHostRange n hosts
IsHostRange-inner n hosts f reserved start end = record {
  family = f;
  inner = λ _ x y p q. (start ∙ ap (λ a. a + 1) (sym (first_from_least n x p)), end ∙ sym (last_from_greatest n y q));
  whole = λ none. absurd (none reserved);
}

-- a block below length 31 has two addresses between its ends
pub reserved_ends_are_apart : (n : Network) → IsNetwork n → HasReservedEnds n
    → (first_of n + 2 ≤ last_of n) × (last_of n < 2 ^ width n.family)
reserved_ends_are_apart n u reserved =
    let bits : 1 < host_bits n = omega (arith, reserved.1, ap width reserved.0) in
    (omega (arith, pow_below 1 (host_bits n) bits), last_fits n u)

-- The other way: the ends of the hosts as numbers, if the ends of the block are reserved and if they are not.
inner_ends : (n : Network) (hosts : AddressRange) → HasReservedEnds n → IsHostRange n hosts
    → (hosts.start ≡ first_of n + 1) × (hosts.end + 1 ≡ last_of n)
inner_ends n hosts reserved h =
    h.inner reserved (at n (first_of n)) (at n (last_of n)) (IsLeastOf-first n (at n (first_of n)) refl refl)
    (IsGreatestOf-last n (at n (last_of n)) refl refl)

whole_ends : (n : Network) (hosts : AddressRange) → ¬ (HasReservedEnds n) → IsHostRange n hosts
    → (hosts.start ≡ first_of n) × (hosts.end ≡ last_of n)
whole_ends n hosts none h =
    h.whole none (at n (first_of n)) (at n (last_of n)) (IsLeastOf-first n (at n (first_of n)) refl refl)
    (IsGreatestOf-last n (at n (last_of n)) refl refl)

-- how many hosts there are
pub inner_count : (n : Network) (hosts : AddressRange) → HasReservedEnds n → IsHostRange n hosts
    → address_count hosts ≡ 2 ^ host_bits n - 2
inner_count n hosts reserved h =
    let ends = inner_ends n hosts reserved h in
    omega (arith, ends.0, ends.1)

pub whole_count : (n : Network) (hosts : AddressRange) → ¬ (HasReservedEnds n) → IsHostRange n hosts
    → address_count hosts ≡ 2 ^ host_bits n
whole_count n hosts none h =
    let ends = whole_ends n hosts none h in
    omega (arith, ends.0, ends.1, pow_pos (host_bits n))

-- which addresses they are
pub inner_hosts : (n : Network) (hosts : AddressRange) (x : Address) → HasReservedEnds n → IsHostRange n hosts
    → Contains (addresses_of hosts) x ↔ (InBlock n x × ¬ (IsLeastOf n x) × ¬ (IsGreatestOf n x))
inner_hosts n hosts x reserved h = (to, from)
  where
    ends : (hosts.start ≡ first_of n + 1) × (hosts.end + 1 ≡ last_of n)
    ends = inner_ends n hosts reserved h

    to : Contains (addresses_of hosts) x → InBlock n x × ¬ (IsLeastOf n x) × ¬ (IsGreatestOf n x)
    to c =
        let between : IsBetween hosts.family hosts.start hosts.end x = between_from_contains hosts x c in (
          block_from_between n x (record {
            of_family = between.of_family ∙ h.family;
            from_start = omega (arith, between.from_start, ends.0);
            to_end = omega (arith, between.to_end, ends.1);
          }),
          λ least. omega (arith, first_from_least n x least, between.from_start, ends.0),
          λ greatest. omega (arith, last_from_greatest n x greatest, between.to_end, ends.1),
        )

    from : InBlock n x × ¬ (IsLeastOf n x) × ¬ (IsGreatestOf n x) → Contains (addresses_of hosts) x
    from (a, not_least, not_greatest) =
        let between : IsBetween n.family (first_of n) (last_of n) x = between_from_block n x a in
        contains_from_between hosts x (record {
          of_family = a.same_family ∙ sym h.family;
          from_start = elim (cases_eq x.number (first_of n)) [
            | inl e ↦ absurd (not_least (IsLeastOf-first n x a.same_family e))
            | inr other ↦ omega (arith, between.from_start, other, ends.0)
          ];
          to_end = elim (cases_eq x.number (last_of n)) [
            | inl e ↦ absurd (not_greatest (IsGreatestOf-last n x a.same_family e))
            | inr other ↦ omega (arith, between.to_end, other, ends.1)
          ];
        })

pub whole_hosts : (n : Network) (hosts : AddressRange) (x : Address) → ¬ (HasReservedEnds n) → IsHostRange n hosts
    → Contains (addresses_of hosts) x ↔ InBlock n x
whole_hosts n hosts x none h = (
  λ c.
      let between : IsBetween hosts.family hosts.start hosts.end x = between_from_contains hosts x c in
      block_from_between n x (record {
        of_family = between.of_family ∙ h.family;
        from_start = omega (arith, between.from_start, ends.0);
        to_end = omega (arith, between.to_end, ends.1);
      }),
  λ a.
      let between : IsBetween n.family (first_of n) (last_of n) x = between_from_block n x a in
      contains_from_between hosts x (record {
        of_family = a.same_family ∙ sym h.family;
        from_start = omega (arith, between.from_start, ends.0);
        to_end = omega (arith, between.to_end, ends.1);
      }),
)
  where
    ends : (hosts.start ≡ first_of n) × (hosts.end ≡ last_of n)
    ends = whole_ends n hosts none h

-- whose ends are not reserved
pub whole_from_31 : (n : Network) → 31 ≤ n.prefix_len → ¬ (HasReservedEnds n)
whole_from_31 n long reserved = omega (arith, long, reserved.1)

pub whole_ipv6 : (n : Network) → n.family ≡ IPv6 → ¬ (HasReservedEnds n)
whole_ipv6 n f reserved = let apart = sym f ∙ reserved.0 in cc
