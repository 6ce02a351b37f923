-- The addresses of a rule: what follows `permit` or `deny`.
use Rattle.std.specs.Prelude.{◌≡◌, ◌≢◌, ◌⊎◌, ◌↔◌, ◌<◌, ℕ, ⊤, List, codes}
use Rattle.ipnet_base.specs.Address.{IPv4, Address, IsAddress}
use Rattle.ipnet_base.specs.Network.{Network, IsNetwork}
use Rattle.ipnet_base.specs.Ranges.{AddressRange}
use Rattle.ipnet.specs.NetworkParts.{own_address, hostmask}
use Rattle.ipnet.specs.declared.parser.Grammar.{Grammar}
use Rattle.ipnet_sets.specs.SetRanges.{IsInRange}
use Rattle.ipnet_lists.specs.Causes.{IsNetmaskNumber}
use Rattle.ipnet_lists.specs.Entries.{IsAddressEntry, IsEntryText, IsIpv4Text, block_range}
use Rattle.ipnet_lists.specs.Words.{leading_word, after_word}

-- The text is `host` and one address. Example: `host 10.0.0.1` is 10.0.0.1 to 10.0.0.1.
pub record IsHostText (grammar : Grammar) (text : List ℕ) (range : AddressRange) : Type 0 where
  pub word : leading_word text ≡ codes "host"
  pub address : IsAddressEntry grammar (after_word text) range

-- The IPv4 network of this address and this wildcard mask, which is the host mask of its prefix length. The masks
-- 0.0.0.0 and 255.255.255.255 are not accepted, because they can also be netmasks.
-- Example: 10.0.0.9 and 0.255.255.255 give 10.0.0.9/8. With 10.0.0.9, 255.0.0.0 gives nothing, nor does 0.0.0.0.
pub record IsWildcardedBy (address mask : Address) (n : Network) : Type 0 where
  pub family : n.family ≡ IPv4
  pub network : IsNetwork n
  pub own : own_address n ≡ address
  pub ones : hostmask n ≡ mask
  pub some : 0 < n.prefix_len
  pub fewer : n.prefix_len < 32

-- The texts of the address and of the wildcard mask of this network.
pub record WriteWildcard (grammar : Grammar) (address_text mask_text : List ℕ) (n : Network) : Type 0 where
  pub address : Address
  pub mask : Address
  pub writes_address : IsIpv4Text grammar address_text address
  pub writes_mask : IsIpv4Text grammar mask_text mask
  pub addresses : IsWildcardedBy address mask n

-- The text is an IPv4 address and a wildcard mask. Example: `10.0.0.9 0.255.255.255` is 10.0.0.0 to 10.255.255.255.
pub record IsWildcardText (grammar : Grammar) (text : List ℕ) (range : AddressRange) : Type 0 where
  pub network : Network
  pub writes : WriteWildcard grammar (leading_word text) (after_word text) network
  pub is : range ≡ block_range network

-- The text is `host` and an address, or an address and a wildcard mask.
abbrev pub IsTwoWordText : Grammar → List ℕ → AddressRange → Type 0
IsTwoWordText grammar text range = IsHostText grammar text range ⊎ IsWildcardText grammar text range

-- The text names the addresses of this range: it is an entry, or one of those two.
abbrev pub IsRangeText : Grammar → List ℕ → AddressRange → Type 0
IsRangeText grammar text range = IsEntryText grammar text range ⊎ IsTwoWordText grammar text range

-- The addresses are exactly the ones in a range for which this is so.
abbrev pub AreOfRange : (AddressRange → Type 0) → (Address → Type 0) → Type 0
AreOfRange IsSo These = (range : AddressRange) × IsSo range × ((x : Address) → These x ↔ IsInRange range x)

-- The text names these addresses: all of both families if it is `any`, and otherwise the ones in a range.
-- Example: `any`; `10.0.0.0/8`, `10.0.0.1`, `10.0.0.1-10.0.0.9`; `host 10.0.0.1`; `10.0.0.0 0.0.0.255`.
abbrev pub NamesAddresses : Grammar → List ℕ → (Address → Type 0) → Type 0
NamesAddresses grammar text These =
    ((text ≡ codes "any") × ((x : Address) → These x ↔ IsAddress x))
    ⊎ AreOfRange (IsRangeText grammar text) These

-- The text names no addresses. Example: `10.0.0.0/33`, `host`, `10.0.0.0 255.0.0.0`.
abbrev pub NamesNone : Grammar → List ℕ → Type 0
NamesNone grammar text = (text ≢ codes "any") × ((range : AddressRange) → ¬ (IsRangeText grammar text range))

-- A mask with this number is a netmask and a wildcard mask: 0.0.0.0 or 255.255.255.255.
abbrev pub IsEitherMask : ℕ → Type 0
IsEitherMask number = (number ≡ 0) ⊎ (number ≡ 4294967295)

-- A mask with this number is a netmask, and not also a wildcard mask. Example: 255.0.0.0, but not 0.0.0.0.
abbrev pub IsOnlyNetmask : ℕ → Type 0
IsOnlyNetmask number = IsNetmaskNumber number × ¬ (IsEitherMask number)

-- The text is two IPv4 addresses, and this is so of the number of the second.
-- Example: of `10.0.0.0 255.0.0.0`, that it is a netmask.
pub record HasSecondAddress (grammar : Grammar) (text : List ℕ) (IsSo : ℕ → Type 0) : Type 0 where
  pub first : Address
  pub second : Address
  pub writes_first : IsIpv4Text grammar (leading_word text) first
  pub writes_second : IsIpv4Text grammar (after_word text) second
  pub is_so : IsSo second.number

-- The text is two IPv4 addresses. Example: `10.0.0.0 0.0.255.0`.
abbrev pub AreTwoAddresses : Grammar → List ℕ → Type 0
AreTwoAddresses grammar text = HasSecondAddress grammar text (λ number. ⊤)
