-- A text that writes a network writes a valid one: its number and its length are in the range of its family.
use Rattle.std.proofs.Common.{◌≡◌, ℕ, zero, suc, ◌+◌, ◌*◌, ◌-◌, ◌^◌, ◌<◌, ◌≤◌, ◌⊎◌, List, [], ◌∷◌, ◌++◌, length, get_or}
use Rattle.std.proofs.Common.{replicate, sym, ap, ◌∙◌, subst, arith, inl, inr, lit<, length-append}
use Rattle.std.proofs.Math.Nat.{pow-le-pow_right}
use Rattle.std.proofs.lemmas.List.{length-replicate}
use Rattle.std.proofs.lemmas.Int.Digits.{digits_value-lt}
use Rattle.std.specs.Int.{w32, from_be_bytes}
use Rattle.std.specs.Net.Addr.{segments_of}
use Rattle.ipnet_base.specs.Address.{width}
use Rattle.ipnet_base.specs.Network.{Network, IsNetwork}
use Rattle.ipnet.specs.declared.parser.Grammar.{Grammar}
use Rattle.ipnet.specs.declared.parser.Grammar.TheVariants.{Strict, Legacy}
use Rattle.ipnet.specs.Numerals.{IsGroup}
use Rattle.ipnet.specs.AddressTexts.{IsGroups, EndsInIpv4, IsIpv6AddressText, IsCompressed, most_written_groups}
use Rattle.ipnet.specs.AddressTexts.{expanded}
use Rattle.ipnet.specs.NetworkTexts.{IsIpv4NetworkText, IsIpv6NetworkText, IsNetworkText}
use Rattle.ipnet.proofs.Ipv4Texts.{Dots, Dots-from}
use Rattle.ipnet.proofs.NumberOctets.{eight_groups_below}

-- numbers of 16 bits
AreGroups : List ℕ → Type 0
AreGroups [] = Unit {0}
AreGroups (g ∷ groups) = (g < 2 ^ 16) × AreGroups groups

AreGroups-get_or : (groups : List ℕ) → AreGroups groups → (k : ℕ) → get_or groups k 0 < 2 ^ 16
unfolding AreGroups
AreGroups-get_or [] h k = lit< tt
AreGroups-get_or (g ∷ groups) h zero = h.0
AreGroups-get_or (g ∷ groups) h (suc k) = AreGroups-get_or groups h.1 k

AreGroups-append : (front after : List ℕ) → AreGroups front → AreGroups after → AreGroups (front ++ after)
unfolding AreGroups
AreGroups-append [] after h k = k
AreGroups-append (g ∷ front) after h k = (h.0, AreGroups-append front after h.1 k)

AreGroups-zeros : (n : ℕ) → AreGroups (replicate n 0)
unfolding AreGroups
AreGroups-zeros zero = tt
AreGroups-zeros (suc n) = (lit< tt, AreGroups-zeros n)

-- ---- what groups and dotted addresses write

group_below : (text : List ℕ) (g : ℕ) → IsGroup text g → g < 2 ^ 16
group_below text g h =
    let below = digits_value-lt 16 text h.digits.1 in
    let most : 16 ^ length text ≤ 16 ^ 4 = pow-le-pow_right (lit< tt) h.short in
    omega (arith, below, most, h.value)

groups_below : (text groups : List ℕ) → IsGroups text groups → AreGroups groups
unfolding AreGroups
groups_below text [] h = tt
groups_below text (g ∷ []) h = (group_below text g h, tt)
groups_below text (g ∷ i ∷ groups) h = (group_below h.0 g h.3, groups_below h.1 (i ∷ groups) h.4)

-- the two groups of a dotted address
dotted_below : (grammar : Grammar) (text octets : List ℕ) → Dots grammar text octets → AreGroups (segments_of octets)
unfolding AreGroups
dotted_below grammar text octets h =
    let two : AreGroups ((h.a * 256 + h.b) ∷ (h.c * 256 + h.d) ∷ []) =
    (omega (arith, h.is_a.small, h.is_b.small), (omega (arith, h.is_c.small, h.is_d.small), tt)) in
    subst (λ o. AreGroups (segments_of o)) (sym h.value) two

mixed_below : (grammar : Grammar) (text groups : List ℕ) → EndsInIpv4 grammar text groups → AreGroups groups
unfolding AreGroups
mixed_below grammar text [] h = absurd h
mixed_below grammar text (g ∷ []) h = absurd h
mixed_below grammar text (g ∷ i ∷ []) (octets, dotted, value) =
    subst AreGroups (sym value) (dotted_below grammar text octets (Dots-from grammar text octets dotted))
mixed_below grammar text (g ∷ i ∷ j ∷ groups) h = (group_below h.0 g h.3, mixed_below grammar h.1 (i ∷ j ∷ groups) h.4)

compressed_eight : (head tail : List ℕ) → length head + length tail ≤ 8 → length (expanded head tail) ≡ 8
compressed_eight head tail room =
    let n = 8 - length head - length tail in
    let zeros : List ℕ = replicate n 0 in
    omega (arith, length-append (head ++ zeros) tail, length-append head zeros, length-replicate {A = ℕ} n 0)

at_most_eight : (grammar : Grammar) (n : ℕ) → n ≤ most_written_groups grammar → n ≤ 8
at_most_eight Strict n h = omega arith
at_most_eight Legacy n h = h

compressed_below : (grammar : Grammar) (text groups : List ℕ) → IsCompressed grammar text groups
    → (length groups ≡ 8) × AreGroups groups
compressed_below grammar text groups h =
    let n = 8 - length h.head - length h.tail in
    let front =
    AreGroups-append h.head (replicate n 0) (groups_below h.head_text h.head h.head_groups) (AreGroups-zeros n) in
    let all = AreGroups-append (h.head ++ replicate n 0) h.tail front (tail_below h.tail_groups) in (
      ap length h.value ∙ compressed_eight h.head h.tail (at_most_eight grammar _ h.room),
      subst AreGroups (sym h.value) all,
    )
  where
    tail_below : IsGroups h.tail_text h.tail ⊎ EndsInIpv4 grammar h.tail_text h.tail → AreGroups h.tail
    tail_below (inl k) = groups_below h.tail_text h.tail k
    tail_below (inr k) = mixed_below grammar h.tail_text h.tail k

ipv6_groups : (grammar : Grammar) (text groups : List ℕ) → IsIpv6AddressText grammar text groups
    → (length groups ≡ 8) × AreGroups groups
ipv6_groups grammar text groups (inl h) = (h.0, groups_below text groups h.1)
ipv6_groups grammar text groups (inr (inl h)) = (h.0, mixed_below grammar text groups h.1)
ipv6_groups grammar text groups (inr (inr h)) = compressed_below grammar text groups h

-- ---- networks

ipv4_is_network : (grammar : Grammar) (text : List ℕ) (n : Network) → IsIpv4NetworkText grammar text n → IsNetwork n
ipv4_is_network grammar text n h =
    let dots = Dots-from grammar h.address_text h.octets h.writes_address in
    let octets_are = ap (from_be_bytes w32) dots.value in
    let low : n.number < 2 ^ 32 =
    omega (arith, h.number, octets_are, dots.is_a.small, dots.is_b.small, dots.is_c.small, dots.is_d.small) in
    record {
      address_fits = subst (λ f. n.number < 2 ^ width f) (sym h.family) low;
      prefix_fits = subst (λ f. n.prefix_len ≤ width f) (sym h.family) h.writes_length.small;
    }

ipv6_is_network : (grammar : Grammar) (text : List ℕ) (n : Network) → IsIpv6NetworkText grammar text n → IsNetwork n
ipv6_is_network grammar text n h =
    let (eight, fit) = ipv6_groups grammar h.address_text h.groups h.writes_address in
    let low : n.number < 2 ^ 128 = rw h.number (eight_groups_below h.groups eight (AreGroups-get_or h.groups fit)) in
    record {
      address_fits = subst (λ f. n.number < 2 ^ width f) (sym h.family) low;
      prefix_fits = subst (λ f. n.prefix_len ≤ width f) (sym h.family) h.writes_length.small;
    }

pub text_is_network : (grammar : Grammar) (text : List ℕ) (n : Network) → IsNetworkText grammar text n → IsNetwork n
text_is_network grammar text n (inl h) = ipv4_is_network grammar text n h
text_is_network grammar text n (inr h) = ipv6_is_network grammar text n h
