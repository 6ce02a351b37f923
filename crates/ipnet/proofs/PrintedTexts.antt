-- The canonical text of a network writes that network, in either grammar.
use Rattle.std.proofs.Common.{◌≡◌, ℕ, ◌^◌, ◌<◌, ◌≤◌, ◌↔◌, List, length, get_or, refl, sym, ap, subst, arith, inl, inr}
use Rattle.std.proofs.Common.{lit<}
use Rattle.std.proofs.lemmas.Nat.{from_be_bytes-to_be_bytes_4}
use Rattle.std.specs.Int.{w32, w128, to_be_bytes}
use Rattle.std.specs.Net.Addr.{segments_of}
use Rattle.std.specs.Net.Text.{ipv4_text, ipv6_text}
use Rattle.std.proofs.NetLemmas.Texts.{IsColonHex-ipv6_text as StdColonHex-ipv6_text}
use Rattle.std.proofs.NetLemmas.Texts.{IsDotted-ipv4_text as StdDotted-ipv4_text}
use Rattle.ipnet_base.specs.Address.{Family, IPv4, IPv6, width}
use Rattle.ipnet_base.specs.Network.{Network, IsNetwork}
use Rattle.ipnet_base.proofs.DigitLaws.{octets_back}
use Rattle.ipnet.specs.NetworkOf.{ipv4_network_of, ipv6_network_of}
use Rattle.ipnet.specs.declared.parser.Grammar.{Grammar}
use Rattle.ipnet.specs.declared.parser.Grammar.TheVariants.{Strict, Legacy}
use Rattle.ipnet.specs.AddressTexts.{IsIpv4AddressText, IsIpv6AddressText}
use Rattle.ipnet.specs.NetworkTexts.{IsIpv4NetworkText, IsIpv6NetworkText, IsNetworkText}
use Rattle.ipnet.specs.CanonicalTexts.{canonical_text}
use Rattle.ipnet.proofs.NumberOctets.{octet_fits, group_fits}
use Rattle.ipnet.proofs.StrictTexts.{strict_is_legacy}
use Rattle.ipnet.proofs.WholeTexts.{one_network}
use Rattle.ipnet.proofs.StdTexts.{IsIpv4AddressText-std, IsIpv6AddressText-std}
use Rattle.ipnet.proofs.PrintedDigits.{IsDecimal-decimal}

-- what holds of strict texts holds in either grammar
either : (P : Grammar → Type 0) (grammar : Grammar) → (P Strict → P Legacy) → P Strict → P grammar
either P Strict weaker h = h
either P Legacy weaker h = weaker h

IsIpv4AddressText-ipv4_text : (octets : List ℕ) → length octets ≡ 4 → ((k : ℕ) → get_or octets k 0 < 2 ^ 8)
    → IsIpv4AddressText Strict (ipv4_text octets) octets
IsIpv4AddressText-ipv4_text octets four fits = IsIpv4AddressText-std _ octets (StdDotted-ipv4_text octets four fits)

IsIpv6AddressText-ipv6_text : (groups : List ℕ) → length groups ≡ 8 → ((k : ℕ) → get_or groups k 0 < 2 ^ 16)
    → IsIpv6AddressText Strict (ipv6_text groups) groups
IsIpv6AddressText-ipv6_text groups eight fits = IsIpv6AddressText-std _ groups (StdColonHex-ipv6_text groups eight fits)

ipv4_printed : (number n : ℕ) → number < 2 ^ 32 → n ≤ 32
    → IsIpv4NetworkText Strict (canonical_text (ipv4_network_of number n)) (ipv4_network_of number n)
ipv4_printed number n fits small = record {
  address_text = _;
  length_text = _;
  octets = to_be_bytes w32 number;
  spelled = refl;
  writes_address = IsIpv4AddressText-ipv4_text (to_be_bytes w32 number) refl (octet_fits 4 number);
  writes_length = IsDecimal-decimal 2 32 n (lit< tt) (omega arith) small (omega arith);
  family = refl;
  number = sym (from_be_bytes-to_be_bytes_4 number fits);
}

ipv6_printed : (number n : ℕ) → number < 2 ^ 128 → n ≤ 128
    → IsIpv6NetworkText Strict (canonical_text (ipv6_network_of number n)) (ipv6_network_of number n)
ipv6_printed number n fits small = record {
  address_text = _;
  length_text = _;
  groups = segments_of (to_be_bytes w128 number);
  spelled = refl;
  writes_address = IsIpv6AddressText-ipv6_text (segments_of (to_be_bytes w128 number)) refl (group_fits number);
  writes_length = IsDecimal-decimal 3 128 n (lit< tt) (omega arith) small (omega arith);
  family = refl;
  number = sym (octets_back number fits);
}

-- the canonical text of a network is a strict text of it
printed : (n : Network) → IsNetwork n → IsNetworkText Strict (canonical_text n) n
printed n h = by_family n.family n.number n.prefix_len h.address_fits h.prefix_fits
  where
    by_family : (family : Family) (number len : ℕ) → number < 2 ^ width family → len ≤ width family → let n : Network =
        record { family = family; number = number; prefix_len = len } in
        IsNetworkText Strict (canonical_text n) n
    by_family IPv4 number len fits small = inl (ipv4_printed number len fits small)
    by_family IPv6 number len fits small = inr (ipv6_printed number len fits small)

-- and a legacy one
pub canonical_is_read : (grammar : Grammar) (n : Network) → IsNetwork n → IsNetworkText grammar (canonical_text n) n
canonical_is_read grammar n h =
    either (λ g. IsNetworkText g (canonical_text n) n) grammar (strict_is_legacy _ n) (printed n h)

pub prints_apart : (m n : Network) → IsNetwork m → IsNetwork n → (canonical_text m ≡ canonical_text n) ↔ (m ≡ n)
prints_apart m n h k = (
  λ same. one_network Strict (canonical_text n) m n (subst (λ t. IsNetworkText Strict t m) same (printed m h))
      (printed n k),
  λ same. ap canonical_text same,
)
