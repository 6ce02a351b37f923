-- The compact forms of networks, and the three ways in which bytes fail to be one.
use Rattle.std.specs.Prelude.{◌≡◌, ◌≢◌, ℕ, ◌+◌, ◌/◌, ◌<◌, ◌⊎◌, List, [], ◌∷◌, ◌++◌, length, slice_index}
use Rattle.ipnet_base.specs.Address.{Family, width, family_index}
use Rattle.ipnet_base.specs.Network.{Network}
use Rattle.ipnet.specs.CanonicalTexts.{address_octets}

-- The octets of the address, with its host bits, the most significant first; then the prefix length.
-- Example: 10, 1, 1, 0, 24 for 10.1.1.0/24.
abbrev pub network_bytes : Network → List ℕ
network_bytes n = address_octets n.family n.number ++ n.prefix_len ∷ []

-- The number of octets of an address of the family: 4 or 16.
abbrev pub octet_count : Family → ℕ
octet_count family = width family / 8

-- The number of bytes is wrong: not 5 for IPv4, or not 17 for IPv6. Example: 10, 1, 1, 0, 33, 0 are six bytes.
abbrev pub HasWrongLen : Family → List ℕ → Type 0
HasWrongLen family bytes = length bytes ≢ octet_count family + 1

-- The number of bytes is right, and the last byte, the prefix length, is greater than the width.
-- Example: 10, 1, 1, 0, 33 for IPv4.
pub record HasLongPrefix (family : Family) (bytes : List ℕ) : Type 0 where
  pub right_len : length bytes ≡ octet_count family + 1
  pub long : width family < slice_index bytes (octet_count family)

-- A byte for the family, 0 for IPv4 and 1 for IPv6, and then the compact form. Example: 0, 10, 1, 1, 0, 24.
abbrev pub tagged_network_bytes : Network → List ℕ
tagged_network_bytes n = family_index n.family ∷ network_bytes n

-- The bytes are the family's byte and then `rest`.
-- Example: 0, 10, 1, 1, 0, 24 are IPv4 and the rest 10, 1, 1, 0, 24.
abbrev pub IsTagged : List ℕ → Family → List ℕ → Type 0
IsTagged bytes family rest = bytes ≡ family_index family ∷ rest

-- There are no bytes, or the family's byte is followed by a wrong number of bytes.
-- Example: no bytes; 0 only; 1, 10, 1, 1, 0, 24.
abbrev pub HasWrongTaggedLen : List ℕ → Type 0
HasWrongTaggedLen bytes =
    (bytes ≡ []) ⊎ ((family : Family) × (rest : List ℕ) × IsTagged bytes family rest × HasWrongLen family rest)

-- The first byte is not a family's byte. Example: 2 only; 2, 10, 1, 1, 0, 24.
abbrev pub HasUnknownVariant : List ℕ → Type 0
HasUnknownVariant bytes =
    (tag : ℕ) × (rest : List ℕ) × (bytes ≡ tag ∷ rest) × ((family : Family) → tag ≢ family_index family)

-- The family's byte is followed by the right number of bytes, and the prefix length is greater than the width.
-- Example: 0, 10, 1, 1, 0, 33.
abbrev pub HasLongTaggedPrefix : List ℕ → Type 0
HasLongTaggedPrefix bytes =
    (family : Family) × (rest : List ℕ) × IsTagged bytes family rest × HasLongPrefix family rest
