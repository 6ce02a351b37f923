-- Payloads and routes as rows, and the result of each C function on images of tables of payloads: its status, and what
-- it leaves in the caller's memory. `old` and `new` are a buffer before and after the call; `count_old` and `count` are
-- a number that the call may write.
use Rattle.std.specs.Prelude.{◌≡◌, ◌≢◌, ℕ, ◌<◌, ◌↔◌, ◌⊎◌, List, length, get_or, slice_index, Some, IsPermutation}
use Rattle.ipnet.specs.Network.{Network, IsNetwork, truncation}
use Rattle.ipnet.specs.NetworkParts.{own_address}
use Rattle.ipnet_origins.specs.Origins.{IsValidity}
use Rattle.ipnet_origins.specs.Groups.{network_of, AreInOrder, AreRanked}
use Rattle.ipnet_origins.specs.OriginImages.{IsOriginImage, IsOriginImageOf}
use Rattle.ipnet_origins.specs.declared.payload.Payload.{Payload}
use Rattle.ipnet_origins.specs.declared.origins.Validity.{Validity}
use Rattle.ipnet_origins.specs.declared.origins.Validity.TheVariants.{Valid, Invalid, NotFound}
use Rattle.ipnet_c.specs.Statuses as statuses
use Rattle.ipnet_c.specs.Buffers.{IsWritten, IsTooLong}
use Rattle.ipnet_c.specs.Rows.{AreRows, row_bytes, IsRowOf}

-- ---- rows of networks with AS numbers

-- Networks with AS numbers, as four arrays: the families and the octets of rows, and for each row the prefix length and
-- the AS number.
pub record Columns : Type 0 where
  pub families : List ℕ
  pub octets : List ℕ
  pub lengths : List ℕ
  pub asns : List ℕ

-- The columns of these arrays.
abbrev pub columns : List ℕ → List ℕ → List ℕ → List ℕ → Columns
columns families octets lengths asns =
    record { families = families; octets = octets; lengths = lengths; asns = asns }

-- There are 16 octets, a prefix length and an AS number for each row, and as many items as rows.
pub record AreColumns (c : Columns) (items : ℕ) : Type 0 where
  pub rows : AreRows c.families c.octets
  pub of_lengths : length c.lengths ≡ length c.families
  pub of_asns : length c.asns ≡ length c.families
  pub of_items : items ≡ length c.families

-- The family, the 16 bytes and the prefix length are this network, with its host bits.
-- Example: 4, then 192, 0, 2, 1 and twelve zeros, and 24 are 192.0.2.1/24.
pub record IsNetworkRow (family : ℕ) (bytes : List ℕ) (len : ℕ) (n : Network) : Type 0 where
  pub network : IsNetwork n
  pub address : IsRowOf family bytes (own_address n)
  pub len_is : n.prefix_len ≡ len

-- The row with this index is the network.
abbrev pub IsNetworkAtRow : Columns → ℕ → Network → Type 0
IsNetworkAtRow c i n =
    IsNetworkRow (slice_index c.families i) (row_bytes c.octets i) (slice_index c.lengths i) n

-- ---- payloads

-- The row with this index is the payload, with the greatest length of the row. Host bits of its network do not count.
pub record IsPayloadAtRow (c : Columns) (max_lens : List ℕ) (i : ℕ) (vrp : Payload) : Type 0 where
  pub network : Network
  pub row : IsNetworkAtRow c i network
  pub network_is : network_of vrp ≡ truncation network
  pub max_len_is : vrp.max_len ≡ slice_index max_lens i
  pub asn_is : vrp.asn ≡ slice_index c.asns i

-- Each of the first `count` rows is a payload.
abbrev pub AreGoodRows : Columns → List ℕ → ℕ → Type 0
AreGoodRows c max_lens count = (i : ℕ) → i < count → (vrp : Payload) × IsPayloadAtRow c max_lens i vrp

-- The first `count` rows are these payloads, in order.
pub record ArePayloadsOfRows (c : Columns) (max_lens : List ℕ) (count : ℕ) (vrps : List Payload) : Type 0 where
  pub as_many : length vrps ≡ count
  pub each : (i : ℕ) (d : Payload) → i < count → IsPayloadAtRow c max_lens i (get_or vrps i d)

-- The row is not a payload, and each row before it is one.
-- Example: with the greatest length 23 in its third row for a network of the length 24, the row 2.
pub record IsFirstBadRow (c : Columns) (max_lens : List ℕ) (row : ℕ) : Type 0 where
  pub within : row < length max_lens
  pub bad : (vrp : Payload) → ¬ (IsPayloadAtRow c max_lens row vrp)
  pub before : AreGoodRows c max_lens row

-- The bytes are the image of the payloads of all rows, in the order of a table.
pub record IsImageOfRows (c : Columns) (max_lens image : List ℕ) : Type 0 where
  pub given : List Payload
  pub rows : ArePayloadsOfRows c max_lens (length max_lens) given
  pub vrps : List Payload
  pub same : IsPermutation given vrps
  pub order : AreInOrder vrps
  pub ranked : AreRanked vrps
  pub image_of : IsOriginImageOf image vrps

-- Making an image of rows: `count` is the length of the image, or the index of the first bad row.
-- Example: 192.0.2.0/24 with greatest length 26 and AS 64496 and a buffer of 56 bytes or more give `ok`, the image and
-- 56; with greatest length 23 they give `bad_row` and 0.
pub record IsOriginsReply (c : Columns) (max_lens old new : List ℕ) (count_old count status : ℕ) : Type 0 where
  pub known : (status ≡ statuses.ok) ⊎ ((status ≡ statuses.buffer_too_short) ⊎ ((status ≡ statuses.bad_row)
      ⊎ ((status ≡ statuses.wrong_length) ⊎ (status ≡ statuses.out_of_memory))))
  pub ok : status ≡ statuses.ok → (image : List ℕ) × IsImageOfRows c max_lens image × IsWritten image old new count
  pub too_short : status ≡ statuses.buffer_too_short
      → (image : List ℕ) × IsImageOfRows c max_lens image × IsTooLong image old new count
  pub bad_row : status ≡ statuses.bad_row → IsFirstBadRow c max_lens count
  pub bad : (row : ℕ) → AreColumns c (length max_lens) → IsFirstBadRow c max_lens row → status ≡ statuses.bad_row
  pub wrong_length : (status ≡ statuses.wrong_length) ↔ ¬ (AreColumns c (length max_lens))
  pub buffer_kept : status ≢ statuses.ok → new ≡ old
  pub count_kept : (status ≡ statuses.wrong_length) ⊎ (status ≡ statuses.out_of_memory) → count ≡ count_old

-- How many payloads the table has, if the bytes are the image of one.
pub record IsOriginCountReply (origins : List ℕ) (count_old count status : ℕ) : Type 0 where
  pub known : (status ≡ statuses.ok) ⊎ (status ≡ statuses.not_origins)
  pub ok : (vrps : List Payload) → status ≡ statuses.ok → IsOriginImageOf origins vrps → count ≡ length vrps
  pub not_origins : (status ≡ statuses.not_origins) ↔ ¬ (IsOriginImage origins)
  pub kept : status ≢ statuses.ok → count ≡ count_old

-- ---- the validity of routes

-- The byte of a validity.
abbrev pub validity_byte : Validity → ℕ
validity_byte NotFound = 0
validity_byte Valid = 1
validity_byte Invalid = 2

-- The answer is the validity of the network of the row with the AS number; or 3 if the row is not a network.
pub record IsRowValidity (vrps : List Payload) (c : Columns) (i answer : ℕ) : Type 0 where
  pub network : (n : Network) → IsNetworkAtRow c i n
      → (v : Validity) × IsValidity vrps n (Some (slice_index c.asns i)) v × (answer ≡ validity_byte v)
  pub none : (answer ≡ 3) ↔ ((n : Network) → ¬ (IsNetworkAtRow c i n))

-- The validities of many routes by the payloads of an image.
-- Example: by 192.0.2.0/24 with greatest length 26 and AS 64496, the routes 192.0.2.0/25 of AS 64496 and of AS 64497,
-- 198.51.100.0/24 of AS 64496, and 192.0.2.0/33 give 1, 2, 0, 3.
pub record IsValidityReply (origins : List ℕ) (c : Columns) (old new : List ℕ) (status : ℕ) : Type 0 where
  pub known : (status ≡ statuses.ok) ⊎ ((status ≡ statuses.wrong_length) ⊎ ((status ≡ statuses.not_origins)
      ⊎ (status ≡ statuses.out_of_memory)))
  pub ok : (vrps : List Payload) → status ≡ statuses.ok → IsOriginImageOf origins vrps → (i : ℕ) → i < length old
      → IsRowValidity vrps c i (slice_index new i)
  pub image : status ≡ statuses.ok → IsOriginImage origins
  pub as_many : length new ≡ length old
  pub wrong_length : (status ≡ statuses.wrong_length) ↔ ¬ (AreColumns c (length old))
  pub not_origins : (status ≡ statuses.not_origins) ↔ (AreColumns c (length old) × ¬ (IsOriginImage origins))
  pub kept : status ≢ statuses.ok → new ≡ old
