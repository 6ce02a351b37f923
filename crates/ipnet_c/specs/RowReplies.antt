-- The result of each C function on columns of addresses: its status, and what it leaves in the caller's memory. `old`
-- and `new` are a buffer before and after the call.
use Rattle.std.specs.Prelude.{◌≡◌, ◌≢◌, ℕ, ◌%◌, ◌^◌, ◌<◌, ◌≤◌, ◌↔◌, ◌⊎◌, List, length, slice_index, Some}
use Rattle.ipnet.specs.Address.{Family, IPv4, IPv6, Address, address_at}
use Rattle.ipnet.specs.Network.{Network, InBlock, IsLeastOf}
use Rattle.ipnet.specs.NetworkParts.{network_at}
use Rattle.ipnet_sets.specs.Images.{HasHeader}
use Rattle.ipnet_routes.specs.TableImages.{HasTableHeader}
use Rattle.ipnet_c.specs.Statuses as statuses
use Rattle.ipnet_c.specs.Rows.{AreRows, row_bytes, IsRowOf, IsNoFamily, IsWrittenRowOf}
use Rattle.ipnet_c.specs.SetReplies.{IsAnswerAt}
use Rattle.ipnet_c.specs.TableReplies.{IsValueAt}

-- ---- columns of numbers

-- Whether the set contains each of many IPv4 addresses, given by their numbers: the byte in `new` is 1 or 0.
-- Example: of the image of 10.0.0.0/30, 167772161 and 167772164 give 1, 0.
pub record IsContainsNumbersReply (set numbers old new : List ℕ) (status : ℕ) : Type 0 where
  pub known : (status ≡ statuses.ok) ⊎ ((status ≡ statuses.wrong_length) ⊎ (status ≡ statuses.not_a_set))
  pub ok : status ≡ statuses.ok → (i : ℕ) → i < length old
      → IsAnswerAt set (address_at IPv4 (slice_index numbers i)) (slice_index new i)
  pub as_many : length new ≡ length old
  pub wrong_length : (status ≡ statuses.wrong_length) ↔ (length numbers ≢ length old)
  pub not_a_set : (status ≡ statuses.not_a_set) ↔ ((length numbers ≡ length old) × ¬ (HasHeader set))
  pub kept : status ≢ statuses.ok → new ≡ old

-- The longest matches of many IPv4 addresses, given by their numbers: the number in `new` is the value of the longest
-- match, or `missing`.
-- Example: of the image of 10.0.0.0/8 with 7, 167772161 and 184549377 with the missing value 9 give 7, 9.
pub record IsMatchNumbersReply (table numbers : List ℕ) (missing : ℕ) (old new : List ℕ) (status : ℕ) : Type 0 where
  pub known : (status ≡ statuses.ok) ⊎ ((status ≡ statuses.wrong_length) ⊎ (status ≡ statuses.not_a_table))
  pub ok : status ≡ statuses.ok → (i : ℕ) → i < length old
      → IsValueAt table (address_at IPv4 (slice_index numbers i)) missing (slice_index new i)
  pub as_many : length new ≡ length old
  pub wrong_length : (status ≡ statuses.wrong_length) ↔ (length numbers ≢ length old)
  pub not_a_table : (status ≡ statuses.not_a_table) ↔ ((length numbers ≡ length old) × ¬ (HasTableHeader table))
  pub kept : status ≢ statuses.ok → new ≡ old

-- ---- columns of rows

-- There are 16 octets and one place for an answer for each row.
abbrev pub AreRowsWith : List ℕ → List ℕ → List ℕ → Type 0
AreRowsWith families octets answers = AreRows families octets × (length answers ≡ length families)

-- Whether the set contains the address of a row: 1 or 0; or 2 if the row is not an address.
pub record IsRowAnswer (set : List ℕ) (family : ℕ) (bytes : List ℕ) (answer : ℕ) : Type 0 where
  pub address : (x : Address) → IsRowOf family bytes x → IsAnswerAt set x answer
  pub none : (answer ≡ 2) ↔ IsNoFamily family

-- Whether the set contains each of many addresses, given by rows.
-- Example: of the image of 10.0.0.0/30, the rows of 10.0.0.1, of 10.0.0.4 and of no address give 1, 0, 2.
pub record IsContainsRowsReply (set families octets old new : List ℕ) (status : ℕ) : Type 0 where
  pub known : (status ≡ statuses.ok) ⊎ ((status ≡ statuses.wrong_length) ⊎ (status ≡ statuses.not_a_set))
  pub ok : status ≡ statuses.ok → (i : ℕ) → i < length old
      → IsRowAnswer set (slice_index families i) (row_bytes octets i) (slice_index new i)
  pub as_many : length new ≡ length old
  pub wrong_length : (status ≡ statuses.wrong_length) ↔ ¬ (AreRowsWith families octets old)
  pub not_a_set : (status ≡ statuses.not_a_set) ↔ (AreRowsWith families octets old × ¬ (HasHeader set))
  pub kept : status ≢ statuses.ok → new ≡ old

-- The value of the longest match of the address of a row; `missing` if no network holds it, or if the row is not an
-- address.
pub record IsRowValue (table : List ℕ) (family : ℕ) (bytes : List ℕ) (missing value : ℕ) : Type 0 where
  pub address : (x : Address) → IsRowOf family bytes x → IsValueAt table x missing value
  pub none : IsNoFamily family → value ≡ missing

-- The longest matches of many addresses, given by rows.
-- Example: of the image of 10.0.0.0/8 with 7, the rows of 10.0.0.1, of 11.0.0.1 and of no address with the missing
-- value 9 give 7, 9, 9.
pub record IsMatchRowsReply (table families octets : List ℕ) (missing : ℕ) (old new : List ℕ) (status : ℕ) : Type
    0 where
  pub known : (status ≡ statuses.ok) ⊎ ((status ≡ statuses.wrong_length) ⊎ (status ≡ statuses.not_a_table))
  pub ok : status ≡ statuses.ok → (i : ℕ) → i < length old
      → IsRowValue table (slice_index families i) (row_bytes octets i) missing (slice_index new i)
  pub as_many : length new ≡ length old
  pub wrong_length : (status ≡ statuses.wrong_length) ↔ ¬ (AreRowsWith families octets old)
  pub not_a_table : (status ≡ statuses.not_a_table) ↔ (AreRowsWith families octets old × ¬ (HasTableHeader table))
  pub kept : status ≢ statuses.ok → new ≡ old

-- ---- changes of rows

-- The network of the IPv4-mapped addresses, ::ffff:0:0/96 (RFC 4291, section 2.5.5.2).
abbrev pub mapped_network : Network
mapped_network = record { family = IPv6; number = 0xffff_0000_0000; prefix_len = 96 }

-- The IPv4 address of the last four octets. Example: 10.0.0.1 for ::ffff:10.0.0.1.
abbrev pub last_ipv4 : Address → Address
last_ipv4 x = address_at IPv4 (x.number % 2 ^ 32)

-- The row of an IPv4-mapped address has become the row of the IPv4 address in it; any other row is what it was.
-- Example: ::ffff:10.0.0.1 becomes 10.0.0.1; ::10.0.0.1 stays.
pub record IsUnmappedRow (family : ℕ) (bytes : List ℕ) (new_family : ℕ) (new_bytes : List ℕ) : Type 0 where
  pub mapped : (x : Address) → IsRowOf family bytes x → InBlock mapped_network x
      → IsWrittenRowOf new_family new_bytes (Some (last_ipv4 x))
  pub others : ((x : Address) → IsRowOf family bytes x → ¬ (InBlock mapped_network x))
      → (new_family ≡ family) × (new_bytes ≡ bytes)

-- Unmapping all rows. `families` and `octets` are the rows before the call.
pub record IsUnmapReply (families new_families octets new_octets : List ℕ) (status : ℕ) : Type 0 where
  pub known : (status ≡ statuses.ok) ⊎ (status ≡ statuses.wrong_length)
  pub ok : status ≡ statuses.ok → (i : ℕ) → i < length families
      → IsUnmappedRow (slice_index families i) (row_bytes octets i) (slice_index new_families i)
      (row_bytes new_octets i)
  pub as_many : length new_families ≡ length families
  pub as_many_octets : length new_octets ≡ length octets
  pub wrong_length : (status ≡ statuses.wrong_length) ↔ ¬ (AreRows families octets)
  pub families_kept : status ≢ statuses.ok → new_families ≡ families
  pub octets_kept : status ≢ statuses.ok → new_octets ≡ octets

-- The prefix length of the family. Example: of 24 and 48, it is 48 for IPv6.
abbrev pub length_for : ℕ → ℕ → Family → ℕ
length_for ipv4_length ipv6_length IPv4 = ipv4_length
length_for ipv4_length ipv6_length IPv6 = ipv6_length

-- The row of an address has become the row of the least address of its network of this prefix length; a row of no
-- address is what it was.
-- Example: with 24 for IPv4, the row of 10.1.2.3 becomes the row of 10.1.2.0.
pub record IsTruncatedRow (ipv4_length ipv6_length family : ℕ) (bytes new_bytes : List ℕ) : Type 0 where
  pub address : (x : Address) → IsRowOf family bytes x
      → (y : Address) × IsLeastOf (network_at x (length_for ipv4_length ipv6_length x.family)) y
      × IsWrittenRowOf family new_bytes (Some y)
  pub none : IsNoFamily family → new_bytes ≡ bytes

-- Both prefix lengths are at most the widths of the addresses. Example: 24 and 48, and not 33 and 48.
abbrev pub ArePrefixLengths : ℕ → ℕ → Type 0
ArePrefixLengths ipv4_length ipv6_length = (ipv4_length ≤ 32) × (ipv6_length ≤ 128)

-- Truncating all rows. `octets` are the octets before the call.
pub record IsTruncateReply (ipv4_length ipv6_length : ℕ) (families octets new_octets : List ℕ) (status : ℕ) : Type
    0 where
  pub known : (status ≡ statuses.ok) ⊎ ((status ≡ statuses.prefix_too_long) ⊎ (status ≡ statuses.wrong_length))
  pub ok : status ≡ statuses.ok → (i : ℕ) → i < length families
      → IsTruncatedRow ipv4_length ipv6_length (slice_index families i) (row_bytes octets i) (row_bytes new_octets i)
  pub as_many : length new_octets ≡ length octets
  pub prefix_too_long : (status ≡ statuses.prefix_too_long) ↔ ¬ (ArePrefixLengths ipv4_length ipv6_length)
  pub wrong_length : (status ≡ statuses.wrong_length)
      ↔ (ArePrefixLengths ipv4_length ipv6_length × ¬ (AreRows families octets))
  pub kept : status ≢ statuses.ok → new_octets ≡ octets
