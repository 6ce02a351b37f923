-- Every strict text is a legacy text of the same value.
use Rattle.std.proofs.Common.{ℕ, List, [], ◌∷◌, inl, inr, arith}
use Rattle.ipnet_base.specs.Network.{Network}
use Rattle.ipnet.specs.declared.parser.Grammar.{Grammar}
use Rattle.ipnet.specs.declared.parser.Grammar.TheVariants.{Strict, Legacy}
use Rattle.ipnet.specs.Numerals.{IsDecimal, IsOctet}
use Rattle.ipnet.specs.AddressTexts.{IsJoined, IsIpv4AddressText, EndsInIpv4, IsIpv6AddressText}
use Rattle.ipnet.specs.NetworkTexts.{IsNetworkText}

IsDecimal-weaker : (most greatest : ℕ) (text : List ℕ) (n : ℕ) → IsDecimal Strict most greatest text n
    → IsDecimal Legacy most greatest text n
IsDecimal-weaker most greatest text n h = record {
  digits = h.digits;
  value = h.value;
  short = h.short;
  small = h.small;
  plain = λ strict zero_first. cc;
}

-- what each part writes under P it writes under Q
IsJoined-weaker : (separator : List ℕ) (P Q : List ℕ → ℕ → Type 0) → ((text : List ℕ) (n : ℕ) → P text n → Q text n)
    → (text ns : List ℕ) → IsJoined separator P text ns → IsJoined separator Q text ns
IsJoined-weaker separator P Q weaker text [] h = h
IsJoined-weaker separator P Q weaker text (n ∷ []) h = weaker text n h
IsJoined-weaker separator P Q weaker text (n ∷ m ∷ ns) h =
    (h.0, h.1, h.2, weaker h.0 n h.3, IsJoined-weaker separator P Q weaker h.1 (m ∷ ns) h.4)

IsIpv4AddressText-weaker : (text octets : List ℕ) → IsIpv4AddressText Strict text octets
    → IsIpv4AddressText Legacy text octets
IsIpv4AddressText-weaker text octets h =
    (IsJoined-weaker (46 ∷ []) (IsOctet Strict) (IsOctet Legacy) (IsDecimal-weaker 3 255) text octets h.0, h.1)

EndsInIpv4-weaker : (text groups : List ℕ) → EndsInIpv4 Strict text groups → EndsInIpv4 Legacy text groups
EndsInIpv4-weaker text [] h = h
EndsInIpv4-weaker text (g ∷ []) h = h
EndsInIpv4-weaker text (g ∷ h ∷ []) (octets, dotted, value) =
    (octets, IsIpv4AddressText-weaker text octets dotted, value)
EndsInIpv4-weaker text (g ∷ h ∷ i ∷ groups) p =
    (p.0, p.1, p.2, p.3, EndsInIpv4-weaker p.1 (h ∷ i ∷ groups) p.4)

IsIpv6AddressText-weaker : (text groups : List ℕ) → IsIpv6AddressText Strict text groups
    → IsIpv6AddressText Legacy text groups
IsIpv6AddressText-weaker text groups (inl h) = inl h
IsIpv6AddressText-weaker text groups (inr (inl h)) = inr (inl (h.0, EndsInIpv4-weaker text groups h.1))
IsIpv6AddressText-weaker text groups (inr (inr h)) = inr (inr (record {
  head_text = h.head_text;
  tail_text = h.tail_text;
  head = h.head;
  tail = h.tail;
  spelled = h.spelled;
  head_groups = h.head_groups;
  tail_groups = elim h.tail_groups [ inl plain ↦ inl plain | inr mixed ↦ inr (EndsInIpv4-weaker _ _ mixed) ];
  short_head = h.short_head;
  room = omega (arith, h.room);
  value = h.value;
}))

pub strict_is_legacy : (text : List ℕ) (n : Network) → IsNetworkText Strict text n → IsNetworkText Legacy text n
strict_is_legacy text n (inl h) = inl (record {
  address_text = h.address_text;
  length_text = h.length_text;
  octets = h.octets;
  spelled = h.spelled;
  writes_address = IsIpv4AddressText-weaker _ _ h.writes_address;
  writes_length = IsDecimal-weaker 2 32 _ _ h.writes_length;
  family = h.family;
  number = h.number;
})
strict_is_legacy text n (inr h) = inr (record {
  address_text = h.address_text;
  length_text = h.length_text;
  groups = h.groups;
  spelled = h.spelled;
  writes_address = IsIpv6AddressText-weaker _ _ h.writes_address;
  writes_length = IsDecimal-weaker 3 128 _ _ h.writes_length;
  family = h.family;
  number = h.number;
})

-- a strict text of an address is one in both grammars
pub address_in : (grammar : Grammar) (text octets : List ℕ) → IsIpv4AddressText Strict text octets
    → IsIpv4AddressText grammar text octets
address_in Strict text octets h = h
address_in Legacy text octets h = IsIpv4AddressText-weaker text octets h

-- a strict text of a network is one in both grammars
pub network_in : (grammar : Grammar) (text : List ℕ) (n : Network) → IsNetworkText Strict text n
    → IsNetworkText grammar text n
network_in Strict text n h = h
network_in Legacy text n h = strict_is_legacy text n h
