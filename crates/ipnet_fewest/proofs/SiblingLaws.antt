-- The second half of a network is the sibling of the first.
use Rattle.std.proofs.Common.{◌≡◌, ℕ, suc, ◌+◌, ◌-◌, ◌*◌, ◌/◌, ◌%◌, ◌^◌, sym, ap, ◌∙◌, arith, inl, inr}
use Rattle.std.proofs.Math.Nat.{div-div-eq-div-mul, pow-suc}
use Rattle.std.proofs.lemmas.Bool.{cases_order}
use Rattle.ipnet_base.specs.Address.{width}
use Rattle.ipnet_base.specs.Network.{Network, IsNetwork, IsSubnetOf, host_bits}
use Rattle.ipnet_base.proofs.BlockLaws.{own, own_in}
use Rattle.ipnet_base.proofs.NetworkLaws.{same_network, number_from_truncated}
use Rattle.ipnet_fewest.specs.Plans.{sibling}
use Rattle.ipnet_fewest.specs.Solved.{AreHalvesOf}

-- the open bits of a network that is one bit shorter
bits_around : (n around : Network) → IsSubnetOf n around → around.prefix_len + 1 ≡ n.prefix_len → IsNetwork n
    → host_bits around ≡ suc (host_bits n)
bits_around n around sub len u = omega (arith, ap width (sub (own n) (own_in n)).same_family, len, u.prefix_fits)

-- both halves have its first bits
top_of : (n around : Network) → IsSubnetOf n around → around.prefix_len + 1 ≡ n.prefix_len → IsNetwork n
    → n.number / 2 ^ host_bits n / 2 ≡ around.number / 2 ^ host_bits around
top_of n around sub len u =
    div-div-eq-div-mul n.number (2 ^ host_bits n) 2
    ∙ ap (λ k. n.number / k) (sym (pow-suc 2 (host_bits n)))
    ∙ ap (λ b. n.number / 2 ^ b) (sym (bits_around n around sub len u))
    ∙ (sub (own n) (own_in n)).same_prefix

-- two numbers that differ only in the last bit
other_of : (q r : ℕ) → q / 2 ≡ r / 2 → (q ≡ r → ⊥) → q + 1 - 2 * (q % 2) ≡ r
other_of q r top differ = elim (cases_order q r) [
  | inl same ↦ absurd (differ same)
  | inr (inl less) ↦ omega (arith, top, less)
  | inr (inr more) ↦ omega (arith, top, more)
]

pub sibling_is : (l r around : Network) → AreHalvesOf l r around → sibling l ≡ r
sibling_is l r around h =
    same_network (sibling l) r family
    (ap (λ k. k * 2 ^ host_bits l)
    (other_of (l.number / 2 ^ host_bits l) (r.number / 2 ^ host_bits r) (of_l ∙ sym of_r) differ)
    ∙ ap (λ b. r.number / 2 ^ host_bits r * 2 ^ b) bits
    ∙ sym (number_from_truncated r h.second_truncated))
    len
  where
    family : l.family ≡ r.family
    family = (h.first_within (own l) (own_in l)).same_family ∙ sym (h.second_within (own r) (own_in r)).same_family

    len : l.prefix_len ≡ r.prefix_len
    len = omega (arith, h.first_len, h.second_len)

    bits : host_bits l ≡ host_bits r
    bits = λ i. width (family i) - len i

    of_l : l.number / 2 ^ host_bits l / 2 ≡ around.number / 2 ^ host_bits around
    of_l = top_of l around h.first_within h.first_len h.first_network

    of_r : r.number / 2 ^ host_bits r / 2 ≡ around.number / 2 ^ host_bits around
    of_r = top_of r around h.second_within h.second_len h.second_network

    differ : l.number / 2 ^ host_bits l ≡ r.number / 2 ^ host_bits r → ⊥
    differ same = h.disjoint (own l) (own_in l) (record {
      same_family = family;
      same_prefix = ap (λ b. l.number / 2 ^ b) (sym bits) ∙ same;
    })
