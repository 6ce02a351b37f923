-- The texts of entries: a network, an address, or a first and a last address of one family joined by "-". An entry
-- represents a range of addresses.
use Rattle.std.specs.Prelude.{◌≡◌, ◌≢◌, ◌⊎◌, ◌≤◌, ◌↔◌, ℕ, ◌-◌, ◌==◌, true, List, ◌++◌, length, take, drop, codes}
use Rattle.std.specs.Prelude.{Option, IfSome, IsNone}
use Rattle.std.specs.Char.{is_ascii_whitespace}
use Rattle.std.specs.Int.{w32, w128, from_be_bytes}
use Rattle.std.specs.List.{list_any, prefix_len, suffix_len}
use Rattle.std.specs.Net.Addr.{octets_of}
use Rattle.ipnet_base.specs.Address.{IPv4, IPv6, Address}
use Rattle.ipnet_base.specs.Network.{Network, first_of, last_of}
use Rattle.ipnet_base.specs.Ranges.{AddressRange}
use Rattle.ipnet.specs.declared.parser.Grammar.{Grammar}
use Rattle.ipnet.specs.AddressTexts.{IsIpv4AddressText, IsIpv6AddressText}
use Rattle.ipnet.specs.NetworkParts.{HasAddressAndNetmask}
use Rattle.ipnet.specs.NetworkTexts.{IsNetworkText}
use Rattle.ipnet_sets.specs.SetRanges.{range_of}

-- The text without the blanks at its start. Example: ` 10.0.0.9` is `10.0.0.9`.
abbrev pub after_blanks : List ℕ → List ℕ
after_blanks text = drop (prefix_len is_ascii_whitespace text) text

-- The text without the blanks at its end. Example: `10.0.0.1 ` is `10.0.0.1`.
abbrev pub before_blanks : List ℕ → List ℕ
before_blanks text = take (length text - suffix_len is_ascii_whitespace text) text

-- The text has a carriage return (13).
abbrev pub HasReturn : List ℕ → Type 0
HasReturn text = list_any (λ b. b == 13) text ≡ true

-- The text denotes this IPv4 address. Example: `10.0.0.1` in both grammars, `010.0.0.1` only in the legacy grammar.
pub record IsIpv4Text (grammar : Grammar) (text : List ℕ) (x : Address) : Type 0 where
  pub octets : List ℕ
  pub writes : IsIpv4AddressText grammar text octets
  pub family : x.family ≡ IPv4
  pub number : x.number ≡ from_be_bytes w32 octets

-- The text denotes this IPv6 address. Example: `fd00::1`.
pub record IsIpv6Text (grammar : Grammar) (text : List ℕ) (x : Address) : Type 0 where
  pub groups : List ℕ
  pub writes : IsIpv6AddressText grammar text groups
  pub family : x.family ≡ IPv6
  pub number : x.number ≡ from_be_bytes w128 (octets_of groups)

-- The text denotes this address, of either family.
abbrev pub IsAddressText : Grammar → List ℕ → Address → Type 0
IsAddressText grammar text x = IsIpv4Text grammar text x ⊎ IsIpv6Text grammar text x

-- The IPv4 network with this address and this netmask. A netmask of zeros is accepted only after the address of zeros,
-- because as a wildcard mask it means one address. A netmask of ones is not accepted after the address of zeros: as a
-- wildcard mask it means all addresses.
-- Example: 10.0.0.9 and 255.0.0.0 give 10.0.0.9/8. 10.0.0.0 and 0.0.0.255 give nothing, nor do 10.0.0.5 and 0.0.0.0.
pub record IsMaskedBy (address mask : Address) (n : Network) : Type 0 where
  pub address_family : address.family ≡ IPv4
  pub mask_family : mask.family ≡ IPv4
  pub has : HasAddressAndNetmask n address mask
  pub whole : mask.number ≡ 0 → address.number ≡ 0
  pub single : mask.number ≡ 4294967295 → address.number ≢ 0

-- The texts of the address and of the netmask of this network.
pub record WriteMasked (grammar : Grammar) (address_text mask_text : List ℕ) (n : Network) : Type 0 where
  pub address : Address
  pub mask : Address
  pub writes_address : IsAddressText grammar address_text address
  pub writes_mask : IsAddressText grammar mask_text mask
  pub addresses : IsMaskedBy address mask n

-- An IPv4 address, "/" and a netmask. Example: `10.0.0.9/255.0.0.0` is 10.0.0.9/8.
pub record IsMaskedText (grammar : Grammar) (text : List ℕ) (n : Network) : Type 0 where
  pub address_text : List ℕ
  pub mask_text : List ℕ
  pub spelled : text ≡ address_text ++ codes "/" ++ mask_text
  pub parts : WriteMasked grammar address_text mask_text n

-- The text denotes this network, by a prefix length or by a netmask.
abbrev pub IsNetworkOrMasked : Grammar → List ℕ → Network → Type 0
IsNetworkOrMasked grammar text n = IsNetworkText grammar text n ⊎ IsMaskedText grammar text n

-- The range of the network's block.
abbrev pub block_range : Network → AddressRange
block_range n = range_of n.family (first_of n) (last_of n)

-- A network represents its block. Example: `10.0.0.9/8` and `10.0.0.9/255.0.0.0` are 10.0.0.0 to 10.255.255.255.
pub record IsNetworkEntry (grammar : Grammar) (text : List ℕ) (range : AddressRange) : Type 0 where
  pub network : Network
  pub writes : IsNetworkOrMasked grammar text network
  pub is : range ≡ block_range network

-- An address represents itself. Example: `10.0.0.1` is 10.0.0.1 to 10.0.0.1.
pub record IsAddressEntry (grammar : Grammar) (text : List ℕ) (range : AddressRange) : Type 0 where
  pub address : Address
  pub writes : IsAddressText grammar text address
  pub is : range ≡ range_of address.family address.number address.number

-- A network or an address.
abbrev pub IsPlainEntry : Grammar → List ℕ → AddressRange → Type 0
IsPlainEntry grammar text range = IsNetworkEntry grammar text range ⊎ IsAddressEntry grammar text range

-- The range from the first address to the last. Both are of one family, and the first is at most the last.
pub record IsRangeFrom (first last : Address) (range : AddressRange) : Type 0 where
  pub same_family : first.family ≡ last.family
  pub ordered : first.number ≤ last.number
  pub is : range ≡ range_of first.family first.number last.number

-- The texts of the two ends of this range.
pub record WriteRange (grammar : Grammar) (first_text last_text : List ℕ) (range : AddressRange) : Type 0 where
  pub first : Address
  pub last : Address
  pub writes_first : IsAddressText grammar first_text first
  pub writes_last : IsAddressText grammar last_text last
  pub addresses : IsRangeFrom first last range

-- The texts of these two addresses, joined by "-". Blanks around the "-" do not matter.
pub record JoinsAddresses (grammar : Grammar) (text : List ℕ) (first last : Address) : Type 0 where
  pub first_text : List ℕ
  pub last_text : List ℕ
  pub spelled : text ≡ first_text ++ codes "-" ++ last_text
  pub writes_first : IsAddressText grammar (before_blanks first_text) first
  pub writes_last : IsAddressText grammar (after_blanks last_text) last

-- A first address, "-" and a last address. Blanks around the "-" do not matter, but none of them is a carriage return.
-- Example: `10.0.0.1-10.0.0.9` and `10.0.0.1 - 10.0.0.9` are a range of nine addresses.
pub record IsRangeEntry (grammar : Grammar) (text : List ℕ) (range : AddressRange) : Type 0 where
  pub first_text : List ℕ
  pub last_text : List ℕ
  pub spelled : text ≡ first_text ++ codes "-" ++ last_text
  pub ends : WriteRange grammar (before_blanks first_text) (after_blanks last_text) range
  pub unbroken : ¬ (HasReturn text)

-- The text is an entry with this range.
abbrev pub IsEntryText : Grammar → List ℕ → AddressRange → Type 0
IsEntryText grammar text range = IsPlainEntry grammar text range ⊎ IsRangeEntry grammar text range

-- The text is not an entry. Example: `10.0.0.9-10.0.0.1`, `10.0.0.1-::1`, `10.0.0.0 255.0.0.0`.
abbrev pub IsNoEntry : Grammar → List ℕ → Type 0
IsNoEntry grammar text = (range : AddressRange) → ¬ (IsEntryText grammar text range)

-- A first address, "-" and a last address, without blanks.
pub record IsRangeWord (grammar : Grammar) (text : List ℕ) (range : AddressRange) : Type 0 where
  pub first_text : List ℕ
  pub last_text : List ℕ
  pub spelled : text ≡ first_text ++ codes "-" ++ last_text
  pub ends : WriteRange grammar first_text last_text range

-- The text is an entry with this range, and has no blanks. Example: `10.0.0.1-10.0.0.9`.
abbrev pub IsEntryWord : Grammar → List ℕ → AddressRange → Type 0
IsEntryWord grammar text range = IsPlainEntry grammar text range ⊎ IsRangeWord grammar text range

-- The result of parsing a text: a value that the text denotes, or `None` if and only if it denotes none.
pub record ReadsAs {V T : Type 0} (thing_of : V → T) (Writes : List ℕ → T → Type 0) (text : List ℕ)
    (result : Option V) : Type 0 where
  pub some : IfSome result (λ v. Writes text (thing_of v))
  pub none : IsNone result ↔ ((t : T) → ¬ (Writes text t))
