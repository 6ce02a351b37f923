-- The image of a table: its payloads as bytes, which can be stored and sent. All numbers are little-endian.
--
--     bytes 0 to 7     the text `ipnetvrp`
--     bytes 8 to 15    the version, 1
--     bytes 16 to 23   n, the number of payloads
--     from byte 24     the n payloads, 32 bytes each: the family, 4 or 6; the prefix length; the greatest length; and
--                      the AS number, 4 bytes each; and the number of the network's address, 16 bytes
use Rattle.std.specs.Prelude.{◌≡◌, ℕ, ◌+◌, ◌*◌, ◌<◌, ◌≤◌, List, ◌++◌, length, get_or, IsPermutation}
use Rattle.ipnet_base.specs.Address.{Family, IPv4, IPv6}
use Rattle.ipnet_base.specs.Network.{Network}
use Rattle.ipnet_sets.specs.Images.{number_from}
use Rattle.ipnet_origins.specs.Groups.{network_of}
use Rattle.ipnet_origins.specs.declared.payload.Payload.{Payload}
use Rattle.ipnet_origins.specs.declared.image.OriginImageError.{OriginImageError}
use Rattle.ipnet_origins.specs.declared.image.OriginImageError.TheVariants.{TooShort, Magic, Version, Length, Payloads}
use Rattle.ipnet_origins.specs.declared.image.OriginImageError.TheVariants.{Memory}

-- ---- the header

-- The number of payloads, as the header states it.
abbrev pub stated_payloads : List ℕ → ℕ
stated_payloads bytes = number_from 8 bytes 16

-- The byte at which the payload with the index `i` begins. Example: 24, 56, 88.
abbrev pub payload_place : ℕ → ℕ
payload_place i = 24 + i * 32

-- The number whose eight bytes are the text `ipnetvrp`.
abbrev pub origins_magic : ℕ
origins_magic = 0x7072_7674_656e_7069

-- The bytes have room for the header.
abbrev pub HasOriginsRoom : List ℕ → Type 0
HasOriginsRoom bytes = 24 ≤ length bytes

-- The bytes begin with the text `ipnetvrp`.
abbrev pub HasOriginsMagic : List ℕ → Type 0
HasOriginsMagic bytes = number_from 8 bytes 0 ≡ origins_magic

-- The version is 1.
abbrev pub HasOriginsVersion : List ℕ → Type 0
HasOriginsVersion bytes = number_from 8 bytes 8 ≡ 1

-- The header and the stated payloads have this length together.
abbrev pub HasOriginsLength : List ℕ → Type 0
HasOriginsLength bytes = length bytes ≡ payload_place (stated_payloads bytes)

-- The bytes begin with a header, and their length fits it. The payloads may be any bytes.
pub record HasOriginsHeader (bytes : List ℕ) : Type 0 where
  pub room : HasOriginsRoom bytes
  pub magic : HasOriginsMagic bytes
  pub version : HasOriginsVersion bytes
  pub stated : HasOriginsLength bytes

-- ---- the payloads

-- The number of a family in a payload.
abbrev pub family_number : Family → ℕ
family_number IPv4 = 4
family_number IPv6 = 6

-- The payload that begins at byte `at` has this network.
pub record IsNetworkAt (bytes : List ℕ) (at : ℕ) (n : Network) : Type 0 where
  pub family_is : number_from 4 bytes at ≡ family_number n.family
  pub len_is : number_from 4 bytes (at + 4) ≡ n.prefix_len
  pub number_is : number_from 16 bytes (at + 16) ≡ n.number

-- The payload is stored from byte `at` on.
-- Example: 4, 0, 0, 0, 24, 0, 0, 0, 26, 0, 0, 0, 240, 251, 0, 0, 0, 2, 0, 192 and twelve zeros are 192.0.2.0/24 with
-- greatest length 26 and AS 64496.
pub record IsPayloadAt (bytes : List ℕ) (at : ℕ) (vrp : Payload) : Type 0 where
  pub network : IsNetworkAt bytes at (network_of vrp)
  pub max_len_is : number_from 4 bytes (at + 8) ≡ vrp.max_len
  pub asn_is : number_from 4 bytes (at + 12) ≡ vrp.asn

-- ---- images

-- The bytes are the image of these payloads, in this order.
-- Example: the image of one payload has 56 bytes.
pub record IsOriginImageOf (bytes : List ℕ) (vrps : List Payload) : Type 0 where
  pub header : HasOriginsHeader bytes
  pub as_many : length vrps ≡ stated_payloads bytes
  pub held : (i : ℕ) (d : Payload) → i < length vrps → IsPayloadAt bytes (payload_place i) (get_or vrps i d)

-- Each of the stated payloads is one.
abbrev pub HasPayloads : List ℕ → Type 0
HasPayloads bytes = (i : ℕ) → i < stated_payloads bytes
    → (vrp : Payload) × IsPayloadAt bytes (payload_place i) vrp

-- The bytes are the image of some payloads, in any order.
abbrev pub IsOriginImage : List ℕ → Type 0
IsOriginImage bytes = HasOriginsHeader bytes × HasPayloads bytes

-- The bytes are an image, and the payloads are those that it has, in any order.
pub record HasPayloadsOf (bytes : List ℕ) (vrps : List Payload) : Type 0 where
  pub stored : List Payload
  pub image_of : IsOriginImageOf bytes stored
  pub same : IsPermutation stored vrps

-- The error is the reason why the bytes give no table. If they are not an image, it is the first of the reasons before
-- `Memory` whose condition holds. If they are an image, it is `Memory`; when memory runs out is not specified.
-- Example: `Magic` for 56 bytes of 0.
abbrev pub IsOriginRefusal : OriginImageError → List ℕ → Type 0
IsOriginRefusal TooShort bytes = ¬ (HasOriginsRoom bytes)
IsOriginRefusal Magic bytes = HasOriginsRoom bytes × ¬ (HasOriginsMagic bytes)
IsOriginRefusal Version bytes = HasOriginsRoom bytes × HasOriginsMagic bytes × ¬ (HasOriginsVersion bytes)
IsOriginRefusal Length bytes =
    HasOriginsRoom bytes × HasOriginsMagic bytes × HasOriginsVersion bytes × ¬ (HasOriginsLength bytes)
IsOriginRefusal Payloads bytes = HasOriginsHeader bytes × ¬ (HasPayloads bytes)
IsOriginRefusal Memory bytes = IsOriginImage bytes

-- ---- private steps

-- The new bytes are the old ones, and then the payload.
pub record IsPayloadAdded (vrp : Payload) (old new : List ℕ) : Type 0 where
  pub more : List ℕ
  pub bytes_are : new ≡ old ++ more
  pub size : length new ≡ length old + 32
  pub stored : IsPayloadAt new (length old) vrp

-- The new bytes are the old ones, and then the payloads.
pub record ArePayloadsAdded (vrps : List Payload) (old new : List ℕ) : Type 0 where
  pub more : List ℕ
  pub bytes_are : new ≡ old ++ more
  pub size : length new ≡ length old + length vrps * 32
  pub stored : (i : ℕ) (d : Payload) → i < length vrps → IsPayloadAt new (length old + i * 32) (get_or vrps i d)
