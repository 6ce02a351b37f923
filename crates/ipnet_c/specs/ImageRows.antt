-- The content of an image as rows: the ranges of a set, and the networks and the values of a table. The status of each
-- call, and what it leaves in the caller's memory.
use Rattle.std.specs.Prelude.{◌≡◌, ◌≢◌, ℕ, ◌+◌, ◌*◌, ◌<◌, ◌≤◌, ◌↔◌, ◌⊎◌, List, length, slice_index, Contains}
use Rattle.std.specs.Prelude.{Option, Some, None, IfSome, IsNone, option_map}
use Rattle.ipnet.specs.Address.{address_at}
use Rattle.ipnet.specs.Network.{Network, IsNetwork}
use Rattle.ipnet.specs.NetworkParts.{own_address}
use Rattle.ipnet_base.specs.Ranges.{AddressRange}
use Rattle.ipnet_sets.specs.declared.set.IpSet.{IpSet}
use Rattle.ipnet_sets.specs.Images.{IsImage, IsImageOf}
use Rattle.ipnet_sets.specs.Members.{IsMember}
use Rattle.ipnet_sets.specs.SetRanges.{AreRangesOf, AreFewestRangesOf}
use Rattle.ipnet_routes.specs.Routes.{Route}
use Rattle.ipnet_routes.specs.TableImages.{route_count, HasTableHeader, HasRouteAt, IsTableImageOf, HasOtherValues}
use Rattle.ipnet_c.specs.Statuses as statuses
use Rattle.ipnet_c.specs.Buffers.{IsWritten}
use Rattle.ipnet_c.specs.Rows.{AreRows, row_bytes, IsWrittenRow, IsWrittenRowOf}

-- ---- the ranges of a set

-- The row with this index is the first address of the range, and the next row is its last address.
-- Example: the range from 10.0.0.0 to 10.0.0.5 is the rows of 10.0.0.0 and of 10.0.0.5.
pub record AreEndsAt (families octets : List ℕ) (i : ℕ) (r : AddressRange) : Type 0 where
  pub first : IsWrittenRow families octets i (Some (address_at r.family r.start))
  pub last : IsWrittenRow families octets (i + 1) (Some (address_at r.family r.end))

-- The first rows are the ends of the ranges, two rows for each range, and the other rows are the old ones.
pub record AreRowsOfRanges (ranges : List AddressRange) (families octets new_families new_octets : List ℕ) : Type
    0 where
  pub as_many : length new_families ≡ length families
  pub as_long : length new_octets ≡ length octets
  pub rows : (r : AddressRange) (c : Contains ranges r) → AreEndsAt new_families new_octets (2 * c.0) r
  pub others : (i : ℕ) → 2 * length ranges ≤ i
      → (slice_index new_families i ≡ slice_index families i) × (row_bytes new_octets i ≡ row_bytes octets i)

-- The number is the number of the fewest ranges of the set of the image. They ascend, and no two of them overlap or
-- touch.
pub record IsRangeCount (set : List ℕ) (count : ℕ) : Type 0 where
  pub first : IpSet
  pub first_image : IsImageOf set first
  pub ranges : List AddressRange
  pub are : AreRangesOf (IsMember first) ranges
  pub fewest : AreFewestRangesOf (IsMember first) ranges
  pub counted : count ≡ length ranges

-- The fewest ranges of a set as rows. `count` is the number of the ranges.
-- Example: the image of 10.0.0.0/30 and 10.0.0.4/31 with two rows or more gives `ok`, the rows of 10.0.0.0 and
-- 10.0.0.5, and 1; with one row it gives `buffer_too_short` and 1.
pub record IsRangeRowsReply (set families octets new_families new_octets : List ℕ) (count_old count status : ℕ) : Type
    0 where
  pub known : (status ≡ statuses.ok) ⊎ ((status ≡ statuses.buffer_too_short) ⊎ ((status ≡ statuses.wrong_length)
      ⊎ ((status ≡ statuses.not_a_set) ⊎ (status ≡ statuses.out_of_memory))))
  pub ok : status ≡ statuses.ok → (made : IsRangeCount set count)
      × AreRowsOfRanges made.ranges families octets new_families new_octets
  pub too_short : status ≡ statuses.buffer_too_short → IsRangeCount set count × (length families < 2 * count)
  pub wrong_length : (status ≡ statuses.wrong_length) ↔ ¬ (AreRows families octets)
  pub not_a_set : (status ≡ statuses.not_a_set) ↔ (AreRows families octets × ¬ (IsImage set))
  pub families_kept : status ≢ statuses.ok → new_families ≡ families
  pub octets_kept : status ≢ statuses.ok → new_octets ≡ octets
  pub count_kept : status ≢ statuses.ok → status ≢ statuses.buffer_too_short → count ≡ count_old

-- ---- the networks of a table

-- The prefix length of the network; 0 if there is none.
abbrev pub length_of : Option Network → ℕ
length_of (Some n) = n.prefix_len
length_of None = 0

-- The row and the prefix length are the network of the route with the index `i` in the bytes, or of none if the bytes
-- there are not a route. If the bytes are the image of a table, they are the network of its route.
-- Example: of the image of 10.0.0.0/8 with 7, at index 0, the row of 10.0.0.0 and the prefix length 8.
pub record IsNetworkRow (table : List ℕ) (i family : ℕ) (bytes : List ℕ) (prefix_len : ℕ) : Type 0 where
  pub network : Option Network
  pub written : IsWrittenRowOf family bytes (option_map own_address network)
  pub len : prefix_len ≡ length_of network
  pub of_table : (t : List (Route ℕ)) → IsTableImageOf table t → (r : Route ℕ) (c : Contains t r) → c.0 ≡ i
      → network ≡ Some r.0
  pub stored : IfSome network (λ n. (value : ℕ) × HasRouteAt table i (n, value))
  pub none : IsNone network → (r : Route ℕ) → IsNetwork r.0 → ¬ (HasRouteAt table i r)

-- Rows of networks: the family and the octets of each, and its prefix length.
pub record NetworkRows : Type 0 where
  pub families : List ℕ
  pub octets : List ℕ
  pub lengths : List ℕ

-- The rows of these arrays.
abbrev pub network_rows : List ℕ → List ℕ → List ℕ → NetworkRows
network_rows families octets lengths = record { families = families; octets = octets; lengths = lengths }

-- There are 16 octets and one prefix length for each row, and the table has a route for each, from `start` on.
pub record AreRowsOfRoutes (table : List ℕ) (start : ℕ) (rows : NetworkRows) : Type 0 where
  pub as_long : AreRows rows.families rows.octets
  pub as_many : length rows.lengths ≡ length rows.families
  pub within : start + length rows.families ≤ route_count table

-- The networks of the routes of a table, from the index `start` on.
-- Example: of the image of 10.0.0.0/8 and 10.1.0.0/16, one row from index 1 on gives `ok`, the row of 10.1.0.0 and the
-- prefix length 16; two rows from index 1 on give `wrong_length`.
pub record IsNetworksReply (table : List ℕ) (start : ℕ) (old new : NetworkRows) (status : ℕ) : Type 0 where
  pub known : (status ≡ statuses.ok) ⊎ ((status ≡ statuses.wrong_length) ⊎ (status ≡ statuses.not_a_table))
  pub ok : status ≡ statuses.ok → (i : ℕ) → i < length old.families
      → IsNetworkRow table (start + i) (slice_index new.families i) (row_bytes new.octets i)
      (slice_index new.lengths i)
  pub as_many : length new.families ≡ length old.families
  pub as_long : length new.octets ≡ length old.octets
  pub as_many_lengths : length new.lengths ≡ length old.lengths
  pub wrong_length : (status ≡ statuses.wrong_length) ↔ (HasTableHeader table × ¬ (AreRowsOfRoutes table start old))
  pub not_a_table : (status ≡ statuses.not_a_table) ↔ ¬ (HasTableHeader table)
  pub kept : status ≢ statuses.ok → new ≡ old

-- ---- the values of a table

-- The number is the value of the route with the index `i` in the bytes, or 0 if the bytes there are not a route. If the
-- bytes are the image of a table, it is the value of its route.
pub record IsValueOfRoute (table : List ℕ) (i value : ℕ) : Type 0 where
  pub of_table : (t : List (Route ℕ)) → IsTableImageOf table t → (r : Route ℕ) (c : Contains t r) → c.0 ≡ i
      → value ≡ r.1
  pub stored : (r : Route ℕ) → IsNetwork r.0 → HasRouteAt table i r → value ≡ r.1
  pub none : ((r : Route ℕ) → IsNetwork r.0 → ¬ (HasRouteAt table i r)) → value ≡ 0

-- The values of the routes of a table, from the index `start` on.
-- Example: of the image of 10.0.0.0/8 with 7 and 10.1.0.0/16 with 9, one value from index 1 on is 9.
pub record IsValuesReply (table : List ℕ) (start : ℕ) (old new : List ℕ) (status : ℕ) : Type 0 where
  pub known : (status ≡ statuses.ok) ⊎ ((status ≡ statuses.wrong_length) ⊎ (status ≡ statuses.not_a_table))
  pub ok : status ≡ statuses.ok → (i : ℕ) → i < length old → IsValueOfRoute table (start + i) (slice_index new i)
  pub as_many : length new ≡ length old
  pub wrong_length : (status ≡ statuses.wrong_length)
      ↔ (HasTableHeader table × ¬ (start + length old ≤ route_count table))
  pub not_a_table : (status ≡ statuses.not_a_table) ↔ ¬ (HasTableHeader table)
  pub kept : status ≢ statuses.ok → new ≡ old

-- The image of a table with the same networks and other values, one for each route. `count` is the length of the image.
-- Example: the image of 10.0.0.0/8 with 7, and the value 9, with a buffer of 48 bytes or more gives `ok`, the image of
-- 10.0.0.0/8 with 9, and 48; with two values it gives `wrong_length`.
pub record IsOtherValuesReply (table values old new : List ℕ) (count_old count status : ℕ) : Type 0 where
  pub known : (status ≡ statuses.ok) ⊎ ((status ≡ statuses.buffer_too_short) ⊎ ((status ≡ statuses.wrong_length)
      ⊎ (status ≡ statuses.not_a_table)))
  pub ok : status ≡ statuses.ok
      → (image : List ℕ) × HasOtherValues table values image × IsWritten image old new count
  pub too_short : (status ≡ statuses.buffer_too_short)
      ↔ (HasTableHeader table × (length values ≡ route_count table) × (length old < length table))
  pub wrong_length : (status ≡ statuses.wrong_length)
      ↔ (HasTableHeader table × (length values ≢ route_count table))
  pub not_a_table : (status ≡ statuses.not_a_table) ↔ ¬ (HasTableHeader table)
  pub needed : status ≡ statuses.buffer_too_short → count ≡ length table
  pub buffer_kept : status ≢ statuses.ok → new ≡ old
  pub count_kept : status ≢ statuses.ok → status ≢ statuses.buffer_too_short → count ≡ count_old
