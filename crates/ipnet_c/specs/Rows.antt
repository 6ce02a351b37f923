-- Rows: a column of addresses of both families, as two arrays. `families` has one byte for each row, and `octets` has
-- 16 bytes for each row.
use Rattle.std.specs.Prelude.{◌≡◌, ◌≢◌, ℕ, ◌*◌, List, ◌++◌, length, take, drop, replicate, slice_index, Option, Some}
use Rattle.std.specs.Prelude.{None, IfSome}
use Rattle.ipnet.specs.Address.{Family, IPv4, IPv6, Address, IsAddress}
use Rattle.ipnet.specs.Bytes.{octet_count}
use Rattle.ipnet.specs.CanonicalTexts.{address_octets}
use Rattle.ipnet_c.specs.SetReplies.{AreOctetsOf}

-- There are 16 bytes for each row.
abbrev pub AreRows : List ℕ → List ℕ → Type 0
AreRows families octets = length octets ≡ length families * 16

-- The byte of a family in a row. The byte form of a network has other bytes, 0 and 1.
abbrev pub family_byte : Family → ℕ
family_byte IPv4 = 4
family_byte IPv6 = 6

-- The 16 bytes of the row with this index.
abbrev pub row_bytes : List ℕ → ℕ → List ℕ
row_bytes octets i = take 16 (drop (i * 16) octets)

-- ---- what a row is read as

-- The family and the 16 bytes are this address: its octets are at the start of the bytes. The twelve bytes after the
-- four octets of an IPv4 address may be any.
-- Example: 4 and 10, 0, 0, 1 and twelve zeros are 10.0.0.1.
pub record IsRowOf (family : ℕ) (bytes : List ℕ) (x : Address) : Type 0 where
  pub family_is : family ≡ family_byte x.family
  pub octets_are : AreOctetsOf (take (octet_count x.family) bytes) x

-- The row with this index is the address.
abbrev pub IsRow : List ℕ → List ℕ → ℕ → Address → Type 0
IsRow families octets i x = IsRowOf (slice_index families i) (row_bytes octets i) x

-- The family belongs to no address: it is neither 4 nor 6.
abbrev pub IsNoFamily : ℕ → Type 0
IsNoFamily family = (family ≢ 4) × (family ≢ 6)

-- ---- how a row is written

-- The octets of an address, and zeros up to 16 bytes. Example: 10, 0, 0, 1 and twelve zeros for 10.0.0.1.
abbrev pub padded_octets : Family → ℕ → List ℕ
padded_octets IPv4 number = address_octets IPv4 number ++ replicate 12 0
padded_octets IPv6 number = address_octets IPv6 number

-- The byte of the family of a row; 0 if there is no address.
abbrev pub written_family : Option Address → ℕ
written_family (Some x) = family_byte x.family
written_family None = 0

-- The 16 bytes of the octets of a row; zeros if there is no address.
abbrev pub written_octets : Option Address → List ℕ
written_octets (Some x) = padded_octets x.family x.number
written_octets None = replicate 16 0

-- The family and the 16 bytes are the whole row of the address, or of none: family 0 and 16 zeros.
-- Example: 4 and 10, 0, 0, 1 and twelve zeros for 10.0.0.1.
pub record IsWrittenRowOf (family : ℕ) (bytes : List ℕ) (row : Option Address) : Type 0 where
  pub address : IfSome row IsAddress
  pub family_is : family ≡ written_family row
  pub bytes_are : bytes ≡ written_octets row

-- The row with this index is the whole row of the address, or of none.
abbrev pub IsWrittenRow : List ℕ → List ℕ → ℕ → Option Address → Type 0
IsWrittenRow families octets i row = IsWrittenRowOf (slice_index families i) (row_bytes octets i) row
