-- The text of an address has at most 47 bytes.
use Rattle.std.proofs.Common.{◌≡◌, ℕ, ◌+◌, ◌*◌, ◌≤◌, ◌⊎◌, List, [], ◌∷◌, ◌++◌, length, length-append, ap, ◌∙◌, arith}
use Rattle.std.proofs.Common.{append_assoc, inl, inr}
use Rattle.ipnet_base.specs.Address.{Address}
use Rattle.ipnet.specs.declared.parser.Grammar.{Grammar}
use Rattle.ipnet.specs.declared.parser.Grammar.TheVariants.{Strict, Legacy}
use Rattle.ipnet.specs.AddressTexts.{IsIpv4AddressText, IsIpv6AddressText, IsGroups, EndsInIpv4, IsCompressed}
use Rattle.ipnet.specs.AddressTexts.{most_written_groups}
use Rattle.ipnet.proofs.Ipv4Texts.{Dots-from}
use Rattle.ipnet_lists.specs.Entries.{IsAddressText}

-- a part, one byte and the rest
joined : (text front back : List ℕ) (b : ℕ) → text ≡ front ++ b ∷ back
    → length text ≡ length front + (1 + length back)
joined text front back b e = let parts = ap length e ∙ length-append front (b ∷ back) in omega (arith, parts)

ipv4_length : (grammar : Grammar) (text octets : List ℕ) → IsIpv4AddressText grammar text octets → length text ≤ 15
ipv4_length grammar text octets h =
    let d = Dots-from grammar text octets h in
    let first = joined text d.t₁ (d.t₂ ++ (46 ∷ (d.t₃ ++ (46 ∷ d.t₄)))) 46 d.spelled in
    let second = length-append d.t₂ (46 ∷ (d.t₃ ++ (46 ∷ d.t₄))) in
    let third = length-append d.t₃ (46 ∷ d.t₄) in
    omega (arith, first, second, third, d.is_a.short, d.is_b.short, d.is_c.short, d.is_d.short)

groups_length : (text groups : List ℕ) → IsGroups text groups → length text ≤ 5 * length groups
groups_length text [] h = omega (arith, ap length h)
groups_length text (g ∷ []) h = omega (arith, h.short)
groups_length text (g ∷ i ∷ groups) h =
    let parts = joined text h.0 h.1 58 (h.2 ∙ append_assoc h.0 (58 ∷ []) h.1) in
    omega (arith, parts, h.3.short, groups_length h.1 (i ∷ groups) h.4)

mixed_length : (grammar : Grammar) (text groups : List ℕ) → EndsInIpv4 grammar text groups
    → length text ≤ 5 * length groups + 5
mixed_length grammar text [] h = absurd h
mixed_length grammar text (g ∷ []) h = absurd h
mixed_length grammar text (g ∷ i ∷ []) h = omega (arith, ipv4_length grammar text h.0 h.1)
mixed_length grammar text (g ∷ i ∷ j ∷ groups) h =
    let parts = joined text h.0 h.1 58 (h.2 ∙ append_assoc h.0 (58 ∷ []) h.1) in
    omega (arith, parts, h.3.short, mixed_length grammar h.1 (i ∷ j ∷ groups) h.4)

few_groups : (grammar : Grammar) → most_written_groups grammar ≤ 8
few_groups Strict = omega arith
few_groups Legacy = omega arith

compressed_length : (grammar : Grammar) (text groups : List ℕ) → IsCompressed grammar text groups → length text ≤ 47
compressed_length grammar text groups h =
    let first = joined text h.head_text (58 ∷ h.tail_text) 58
    (h.spelled ∙ append_assoc h.head_text (58 ∷ 58 ∷ []) h.tail_text) in
    omega (arith, first, groups_length h.head_text h.head h.head_groups, tail h.tail_groups, h.room, few_groups grammar)
  where
    tail : IsGroups h.tail_text h.tail ⊎ EndsInIpv4 grammar h.tail_text h.tail
        → length h.tail_text ≤ 5 * length h.tail + 5
    tail (inl k) = omega (arith, groups_length h.tail_text h.tail k)
    tail (inr k) = mixed_length grammar h.tail_text h.tail k

ipv6_length : (grammar : Grammar) (text groups : List ℕ) → IsIpv6AddressText grammar text groups → length text ≤ 47
ipv6_length grammar text groups (inl h) = omega (arith, groups_length text groups h.1, h.0)
ipv6_length grammar text groups (inr (inl h)) = omega (arith, mixed_length grammar text groups h.1, h.0)
ipv6_length grammar text groups (inr (inr h)) = compressed_length grammar text groups h

pub address_length : (grammar : Grammar) (text : List ℕ) (x : Address) → IsAddressText grammar text x
    → length text ≤ 47
address_length grammar text x (inl h) = omega (arith, ipv4_length grammar text h.octets h.writes)
address_length grammar text x (inr h) = ipv6_length grammar text h.groups h.writes
