-- Blocks inside one another: two are nested or disjoint, which the lengths and the own addresses decide.
use Rattle.std.proofs.Common.{◌≡◌, ◌+◌, ◌/◌, ◌^◌, ◌<◌, ◌≤◌, ◌⊎◌, sym, ap, ◌∙◌, arith, pow_pos, inl, inr}
use Rattle.std.proofs.lemmas.Nat.{pow_below}
use Rattle.std.proofs.lemmas.Bool.{cases_lt, cases_eq}
use Rattle.ipnet_base.specs.Address.{Address, width}
use Rattle.ipnet_base.specs.Network.{Network, IsNetwork, host_bits, first_of, last_of, InBlock, IsSubnetOf, AreDisjoint}
use Rattle.ipnet_base.proofs.PrefixLaws.{coarser, block_from, block_to}
use Rattle.ipnet_base.proofs.BlockLaws.{own, own_in, at, first_in, last_in}
use Rattle.ipnet_base.proofs.FamilyLaws.{cases_family}

-- two blocks that share an address are nested, the one with fewer open bits in the other
pub nested : (n k : Network) (x : Address) → InBlock n x → InBlock k x → host_bits n ≤ host_bits k → IsSubnetOf n k
nested n k x a b le y c = record {
  same_family = c.same_family ∙ sym a.same_family ∙ b.same_family;
  same_prefix =
      coarser (host_bits n) (host_bits k) y.number x.number le (c.same_prefix ∙ sym a.same_prefix) ∙ b.same_prefix;
}

nested_by_bits : (n k : Network) → host_bits n ≤ host_bits k → IsSubnetOf n k ⊎ AreDisjoint n k
nested_by_bits n k le =
    elim (cases_family n.family k.family) [
      | inr other ↦ inr (λ x a b. other (sym a.same_family ∙ b.same_family))
      | inl same ↦ elim (cases_eq (n.number / 2 ^ host_bits k) (k.number / 2 ^ host_bits k)) [
        | inl e ↦ inl (nested n k (own n) (own_in n) (record { same_family = same; same_prefix = e }) le)
        | inr ne ↦ inr (λ x a b. ne (sym (coarser (host_bits n) (host_bits k) x.number n.number le a.same_prefix)
            ∙ b.same_prefix))
      ]
    ]

-- two blocks are nested or disjoint
pub nested_or_disjoint : (n k : Network) → IsSubnetOf n k ⊎ (IsSubnetOf k n ⊎ AreDisjoint n k)
nested_or_disjoint n k =
    elim (cases_lt (host_bits k) (host_bits n)) [
      | inr le ↦ elim (nested_by_bits n k le) [ inl s ↦ inl s | inr d ↦ inr (inr d) ]
      | inl lt ↦ elim (nested_by_bits k n (omega arith)) [ inl s ↦ inr (inl s) | inr d ↦ inr (inr (λ x a b. d x b a)) ]
    ]

-- a block that lies in another has no more open bits
pub bits_from_subnet : (n k : Network) → IsSubnetOf n k → host_bits n ≤ host_bits k
bits_from_subnet n k s =
    let low : first_of k ≤ first_of n =
    block_from (host_bits k) (first_of n) k.number (s (at n (first_of n)) (first_in n)).same_prefix in
    let high : last_of n < first_of k + 2 ^ host_bits k =
    block_to (host_bits k) (last_of n) k.number (s (at n (last_of n)) (last_in n)).same_prefix in
    let sizes : 2 ^ host_bits n ≤ 2 ^ host_bits k = omega (arith, pow_pos (host_bits n)) in
    elim (cases_lt (host_bits k) (host_bits n)) [
      | inr le ↦ le
      | inl lt ↦ absurd (omega (arith, pow_below (host_bits k) (host_bits n) lt))
    ]

-- A block lies in another if and only if its prefix is at least as long and the other contains its own address.
pub longer_from_subnet : (n k : Network) → IsNetwork n → IsNetwork k → IsSubnetOf n k → k.prefix_len ≤ n.prefix_len
longer_from_subnet n k u v s =
    omega (arith, bits_from_subnet n k s, ap width (s (own n) (own_in n)).same_family, u.prefix_fits, v.prefix_fits)

pub subnet_from_own : (n k : Network) → k.prefix_len ≤ n.prefix_len → InBlock k (own n) → IsSubnetOf n k
subnet_from_own n k le h = nested n k (own n) (own_in n) h (omega (arith, le, ap width h.same_family))

-- no block lies in one of the other family
pub no_subnet_of_other_family : (n k : Network) → (n.family ≡ k.family → ⊥) → IsSubnetOf n k → ⊥
no_subnet_of_other_family n k other s = other (s (own n) (own_in n)).same_family
