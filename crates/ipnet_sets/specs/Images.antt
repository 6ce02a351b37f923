-- The image of a set: its boundaries as bytes, which can be stored, sent and mapped. All numbers are little-endian.
--
--     bytes 0 to 7     the text `ipnetset`
--     bytes 8 to 15    the version, 1
--     bytes 16 to 23   m, the number of IPv4 boundaries
--     bytes 24 to 31   n, the number of IPv6 boundaries
--     from byte 32     the n IPv6 boundaries, 16 bytes each
--     then             the m IPv4 boundaries, 4 bytes each
use Rattle.std.specs.Prelude.{◌≡◌, ℕ, zero, suc, ◌+◌, ◌*◌, ◌≤◌, List, [], ◌∷◌, ◌++◌, length, slice_index}
use Rattle.ipnet_base.specs.Address.{Family, IPv4, IPv6}
use Rattle.ipnet_sets.specs.declared.set.IpSet.{IpSet}
use Rattle.ipnet_sets.specs.declared.image.ImageError.{ImageError}
use Rattle.ipnet_sets.specs.declared.image.ImageError.TheVariants.{TooShort, Magic, Version, Length, NotAscending}
use Rattle.ipnet_sets.specs.declared.image.ImageError.TheVariants.{Memory}
use Rattle.ipnet_sets.specs.Boundaries.{AreBoundaries}
use Rattle.ipnet_sets.specs.Members.{boundaries_of}

-- The number in `width` bytes from byte `at` on, the least significant byte first.
-- Example: in 7, 4, 1, 0 the number in two bytes from byte 1 on is 4 + 256 * 1 = 260.
unfoldable pub number_from : ℕ → List ℕ → ℕ → ℕ
number_from zero bytes at = 0
number_from (suc width) bytes at = slice_index bytes at + 256 * number_from width bytes (at + 1)

-- `count` numbers of `width` bytes each, one after the other.
-- Example: in 7, 4, 1, 0, 2 the two numbers of two bytes from byte 1 on are 260 and 512.
abbrev pub numbers_from : ℕ → ℕ → List ℕ → ℕ → List ℕ
numbers_from width zero bytes at = []
numbers_from width (suc count) bytes at = number_from width bytes at ∷ numbers_from width count bytes (at + width)

-- The number of boundaries of each family, as the header states it.
abbrev pub stated_count : List ℕ → Family → ℕ
stated_count bytes IPv4 = number_from 8 bytes 16
stated_count bytes IPv6 = number_from 8 bytes 24

-- The boundaries of each family that the bytes hold.
abbrev pub stored_boundaries : List ℕ → Family → List ℕ
stored_boundaries bytes IPv4 = numbers_from 4 (stated_count bytes IPv4) bytes (32 + stated_count bytes IPv6 * 16)
stored_boundaries bytes IPv6 = numbers_from 16 (stated_count bytes IPv6) bytes 32

-- The number whose eight bytes are the text `ipnetset`.
abbrev pub image_magic : ℕ
image_magic = 0x7465_7374_656e_7069

-- The bytes have room for the header.
abbrev pub HasRoom : List ℕ → Type 0
HasRoom bytes = 32 ≤ length bytes

-- The bytes begin with the text `ipnetset`.
abbrev pub HasMagic : List ℕ → Type 0
HasMagic bytes = number_from 8 bytes 0 ≡ image_magic

-- The version is 1.
abbrev pub HasVersion : List ℕ → Type 0
HasVersion bytes = number_from 8 bytes 8 ≡ 1

-- The header and the stated boundaries have this length together.
abbrev pub HasStatedLength : List ℕ → Type 0
HasStatedLength bytes = length bytes ≡ 32 + stated_count bytes IPv6 * 16 + stated_count bytes IPv4 * 4

-- The bytes begin with a header, and their length fits it. The boundaries need not ascend.
pub record HasHeader (bytes : List ℕ) : Type 0 where
  pub room : HasRoom bytes
  pub magic : HasMagic bytes
  pub version : HasVersion bytes
  pub stated : HasStatedLength bytes

-- The bytes are the image of a set: they have a header, and the stored numbers of each family are boundaries.
pub record IsImage (bytes : List ℕ) : Type 0 where
  pub header : HasHeader bytes
  pub boundaries : (f : Family) → AreBoundaries f (stored_boundaries bytes f)

-- The bytes are the image of the set `s`: they have a header, and they hold the boundaries of `s`.
-- Example: the image of 10.0.0.0/30 has 40 bytes: the header with m = 2 and n = 0, then 0, 0, 0, 10 for 10.0.0.0 and
-- 4, 0, 0, 10 for 10.0.0.4.
pub record IsImageOf (bytes : List ℕ) (s : IpSet) : Type 0 where
  pub header : HasHeader bytes
  pub boundaries : (f : Family) → stored_boundaries bytes f ≡ boundaries_of s f

-- The error is the reason why the bytes are not the image of a set. The reasons are tried in this order, so each error
-- occurs exactly if its condition holds and none before it does. Memory runs out only for an image of a set.
abbrev pub IsRefusal : ImageError → List ℕ → Type 0
IsRefusal TooShort bytes = ¬ (HasRoom bytes)
IsRefusal Magic bytes = HasRoom bytes × ¬ (HasMagic bytes)
IsRefusal Version bytes = HasRoom bytes × HasMagic bytes × ¬ (HasVersion bytes)
IsRefusal Length bytes = HasRoom bytes × HasMagic bytes × HasVersion bytes × ¬ (HasStatedLength bytes)
IsRefusal NotAscending bytes = HasHeader bytes × ¬ (IsImage bytes)
IsRefusal Memory bytes = IsImage bytes

-- The new bytes are the old ones followed by `width` bytes with the number.
pub record IsAppended (width number : ℕ) (old new : List ℕ) : Type 0 where
  pub added : List ℕ
  pub width_is : length added ≡ width
  pub number_is : number_from width added 0 ≡ number
  pub bytes_are : new ≡ old ++ added

-- The new bytes are the old ones followed by the numbers, `width` bytes each.
pub record AreAppended (width : ℕ) (numbers old new : List ℕ) : Type 0 where
  pub added : List ℕ
  pub width_is : length added ≡ length numbers * width
  pub numbers_are : numbers_from width (length numbers) added 0 ≡ numbers
  pub bytes_are : new ≡ old ++ added
