-- Wildcard masks, and the addresses that follow the word of a rule.
use Rattle.std.proofs.Common.{◌≡◌, ℕ, ◌-◌, ◌<◌, ◌≤◌, ◌⊎◌, List, sym, ap, ◌∙◌}
use Rattle.std.proofs.Common.{arith, inl, inr}
use Rattle.std.proofs.lemmas.Bool.{cases_lt}
use Rattle.std.proofs.lemmas.Nat.{pow_below}
use Rattle.std.specs.declared.net.ip_addr.IpAddr.TheVariants as Ip
use Rattle.std.specs.declared.net.ipv4_addr.Ipv4Addr.{Ipv4Addr}
use Rattle.ipnet_base.specs.Address.{IPv4, IPv6, Address, ip_address, ipv4_address}
use Rattle.ipnet_base.specs.Masks.{hostmask_number}
use Rattle.ipnet_base.specs.Network.{Network}
use Rattle.ipnet_base.proofs.MaskLaws.{masks_add_up}
use Rattle.ipnet.specs.NetworkParts.{HasAddressAndNetmask}
use Rattle.ipnet.specs.declared.parser.Grammar.{Grammar}
use Rattle.ipnet_lists.specs.Entries.{IsAddressText, IsIpv4Text}
use Rattle.ipnet_lists.proofs.EntryTexts.{one_address}
use Rattle.netset_lib.specs.RuleAddresses.{IsWildcardedBy, IsEitherMask, WriteWildcard}

-- the host mask of a prefix length is all ones only for 0, and 0 only for 32
hostmask_whole : (p : ℕ) → p ≤ 32 → (0 < p) ⊎ (hostmask_number IPv4 p ≡ 4294967295)
hostmask_whole p le = elim (cases_lt 0 p) [
  | inl less ↦ inl less
  | inr not ↦ let same : p ≡ 0 = omega (arith, not) in inr (ap (λ q. hostmask_number IPv4 q) same)
]

hostmask_single : (p : ℕ) → p ≤ 32 → (p < 32) ⊎ (hostmask_number IPv4 p ≡ 0)
hostmask_single p le = elim (cases_lt p 32) [
  | inl less ↦ inl less
  | inr not ↦ let same : p ≡ 32 = omega (arith, not, le) in inr (ap (λ q. hostmask_number IPv4 q) same)
]

-- the host mask of another length is neither
hostmask_between : (p : ℕ) → 0 < p → p < 32 → (0 < hostmask_number IPv4 p) × (hostmask_number IPv4 p < 4294967295)
hostmask_between p some fewer = (
  omega (arith, pow_below 0 (32 - p) (omega (arith, fewer))),
  omega (arith, pow_below (32 - p) 32 (omega (arith, some, fewer)), pow_below 0 (32 - p) (omega (arith, fewer))),
)

-- the network of an address and of the netmask that is the complement of a mask
pub wildcarded : (n : Network) (address mask : Address) (netmask : ℕ) → address.family ≡ IPv4 → mask.family ≡ IPv4
    → mask.number ≤ 4294967295 → netmask ≡ 4294967295 - mask.number → ¬ (IsEitherMask mask.number)
    → HasAddressAndNetmask n address (record { family = IPv4; number = netmask }) → IsWildcardedBy address mask n
wildcarded n address mask netmask of_address of_mask fits is neither h =
    let family : n.family ≡ IPv4 = ap (λ a. a.family) h.address ∙ of_address in
    let p = n.prefix_len in
    let number : hostmask_number IPv4 p ≡ mask.number =
    omega (arith, masks_add_up IPv4 p h.prefix.fits, h.prefix.is_mask, is, fits) in
    let here : hostmask_number n.family p ≡ mask.number = ap (λ f. hostmask_number f p) family ∙ number in
    let same : n.family ≡ mask.family = family ∙ sym of_mask in
    record {
      family = family;
      network = h.network;
      own = h.address;
      ones = λ i. record { family = same i; number = here i };
      some = elim (hostmask_whole p h.prefix.fits) [
        | inl less ↦ less
        | inr whole ↦ absurd (neither (inr (sym number ∙ whole)))
      ];
      fewer = elim (hostmask_single p h.prefix.fits) [
        | inl less ↦ less
        | inr single ↦ absurd (neither (inl (sym number ∙ single)))
      ];
    }

-- the host mask of such a network, as a number
hostmask_is : (n : Network) (address mask : Address) → IsWildcardedBy address mask n
    → hostmask_number IPv4 n.prefix_len ≡ mask.number
hostmask_is n address mask h =
    sym (ap (λ f. hostmask_number f n.prefix_len) h.family) ∙ ap (λ a. a.number) h.ones

-- such a network has that netmask
pub netmasked : (n : Network) (address mask : Address) (netmask : ℕ) → netmask ≡ 4294967295 - mask.number
    → IsWildcardedBy address mask n
    → HasAddressAndNetmask n address (record { family = IPv4; number = netmask })
netmasked n address mask netmask is h = record {
  network = h.network;
  address = h.own;
  prefix = record {
    fits = omega (arith, h.fewer);
    is_mask = omega (arith, masks_add_up IPv4 n.prefix_len (omega (arith, h.fewer)), hostmask_is n address mask h, is);
  };
}

-- its mask is not a netmask
pub not_either : (n : Network) (address mask : Address) → IsWildcardedBy address mask n → ¬ (IsEitherMask mask.number)
not_either n address mask h either =
    let number = hostmask_is n address mask h in
    let between = hostmask_between n.prefix_len h.some h.fewer in
    elim either [
      | inl zero ↦ let wrong : ⊥ = omega (arith, number, between.0, zero) in wrong
      | inr whole ↦ let wrong : ⊥ = omega (arith, number, between.1, whole) in wrong
    ]

-- ---- words that are read

-- a text of an IPv4 address
pub ipv4_text : (grammar : Grammar) (text : List ℕ) (a : Ipv4Addr) → IsAddressText grammar text (ip_address (Ip.V4 a))
    → IsIpv4Text grammar text (ipv4_address a)
ipv4_text grammar text a (inl h) = h
ipv4_text grammar text a (inr h) = let clash : IPv4 ≡ IPv6 = h.family in absurd cc

-- a text of an IPv6 address is not of an IPv4 address
pub other_family : (grammar : Grammar) (text : List ℕ) (x y : Address) → IsAddressText grammar text y
    → y.family ≡ IPv6 → IsIpv4Text grammar text x → ⊥
other_family grammar text x y h of_y k =
    let same = one_address grammar text y x h (inl k) in
    let clash : IPv6 ≡ IPv4 = sym of_y ∙ ap (λ (z : Address). z.family) same ∙ k.family in
    absurd cc

-- no network of the address and the mask
pub no_wildcard : (grammar : Grammar) (address_text mask_text : List ℕ) (address mask : Address)
    → IsIpv4Text grammar address_text address → IsIpv4Text grammar mask_text mask
    → ((n : Network) → IsWildcardedBy address mask n → ⊥) → (n : Network)
    → WriteWildcard grammar address_text mask_text n → ⊥
no_wildcard grammar address_text mask_text address mask a m none n w =
    let one = one_address grammar address_text address w.address (inl a) (inl w.writes_address) in
    let two = one_address grammar mask_text mask w.mask (inl m) (inl w.writes_mask) in
    none n (rw (one, two) w.addresses)
