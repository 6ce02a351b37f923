-- The texts of networks, in the strict and the legacy grammar (RFC 4632, section 3.1; RFC 4291, section 2.3). Each
-- definition relates a whole text, as bytes, to the network that it denotes.
use Rattle.std.specs.Prelude.{◌≡◌, ◌⊎◌, ◌↔◌, List, ◌++◌, codes, ℕ, Result, IsErr}
use Rattle.std.specs.Int.{w32, w128, from_be_bytes}
use Rattle.std.specs.Net.Addr.{octets_of}
use Rattle.ipnet_base.specs.Address.{IPv4, IPv6}
use Rattle.ipnet_base.specs.Network.{Network}
use Rattle.ipnet.specs.declared.parser.Grammar.{Grammar}
use Rattle.ipnet.specs.Numerals.{IsDecimal}
use Rattle.ipnet.specs.AddressTexts.{IsIpv4AddressText, IsIpv6AddressText}
use Rattle.ipnet_base.specs.Results.{IsOkExactlyAt}

-- An IPv4 address, "/" and a prefix length of one or two digits, at most 32. The network keeps its host bits.
-- Example: `10.1.1.7/24` is the network of number 167837959 and length 24. `10.1.1.7/024` is not a network in either
-- grammar.
pub record IsIpv4NetworkText (grammar : Grammar) (text : List ℕ) (network : Network) : Type 0 where
  pub address_text : List ℕ
  pub length_text : List ℕ
  pub octets : List ℕ
  pub spelled : text ≡ address_text ++ codes "/" ++ length_text
  pub writes_address : IsIpv4AddressText grammar address_text octets
  pub writes_length : IsDecimal grammar 2 32 length_text network.prefix_len
  pub family : network.family ≡ IPv4
  pub number : network.number ≡ from_be_bytes w32 octets

-- An IPv6 address, "/" and a prefix length of one to three digits, at most 128. The network keeps its host bits.
-- Example: `fd00::1/64` is the network of number 0xfd00 * 2^112 + 1 and length 64.
pub record IsIpv6NetworkText (grammar : Grammar) (text : List ℕ) (network : Network) : Type 0 where
  pub address_text : List ℕ
  pub length_text : List ℕ
  pub groups : List ℕ
  pub spelled : text ≡ address_text ++ codes "/" ++ length_text
  pub writes_address : IsIpv6AddressText grammar address_text groups
  pub writes_length : IsDecimal grammar 3 128 length_text network.prefix_len
  pub family : network.family ≡ IPv6
  pub number : network.number ≡ from_be_bytes w128 (octets_of groups)

-- The text denotes this network, of either family.
-- Example: `10.0.0.0/8` and `fd00::/8` in both grammars; `010.0.0.0/8` only in the legacy grammar.
abbrev pub IsNetworkText : Grammar → List ℕ → Network → Type 0
IsNetworkText grammar text network =
    IsIpv4NetworkText grammar text network ⊎ IsIpv6NetworkText grammar text network

-- The text denotes no network. Example: `10.0.0.0`, which has no prefix length, and `10.0.0.0/33`.
abbrev pub WritesNone : (List ℕ → Network → Type 0) → List ℕ → Type 0
WritesNone Writes text = (network : Network) → ¬ (Writes text network)

-- The result of parsing a text into a network type: `Ok` of a value if and only if the text denotes the value's
-- network, and an error if and only if it denotes none.
-- Example: in the strict grammar `10.1.1.7/24` gives `Ok` of that network, and `010.0.0.1/08` gives an error.
pub record ReadsNetwork {N E : Type 0} (network_of : N → Network) (Writes : List ℕ → Network → Type 0) (text : List ℕ)
    (result : Result N E) : Type 0 where
  pub ok : IsOkExactlyAt result (λ n. Writes text (network_of n))
  pub error : IsErr result ↔ WritesNone Writes text
