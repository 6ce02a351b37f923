-- The canonical text of a network: its address, "/" and its length (RFC 4632, section 3.1; RFC 4291, section 2.3).
-- The canonical texts of addresses are the standard library's `ipv4_text` and `ipv6_text`: octets in decimal; groups as
-- in RFC 5952, with an IPv4 address at the end of ::ffff:0:0/96 addresses only.
use Rattle.std.specs.Prelude.{◌≡◌, ℕ, ◌+◌, ◌<◌, ◌≤◌, ◌⊎◌, List, ◌++◌, length, take, drop, slice_index, codes, decimal}
use Rattle.std.specs.Int.{w32, w128, to_be_bytes}
use Rattle.std.specs.Net.Addr.{segments_of}
use Rattle.std.specs.Net.Text.{ipv4_text, ipv6_text, groups_text}
use Rattle.ipnet_base.specs.Address.{Family, IPv4, IPv6}
use Rattle.ipnet_base.specs.Network.{Network}

-- The octets of the address with this number, the most significant first. Example: 10, 0, 0, 1 for IPv4 and 167772161.
abbrev pub address_octets : Family → ℕ → List ℕ
address_octets IPv4 number = to_be_bytes w32 number
address_octets IPv6 number = to_be_bytes w128 number

-- The canonical text of the address with this number. Example: `10.0.0.1` for IPv4 and 167772161; `::1` for IPv6 and 1.
abbrev pub address_text : Family → ℕ → List ℕ
address_text IPv4 number = ipv4_text (address_octets IPv4 number)
address_text IPv6 number = ipv6_text (segments_of (address_octets IPv6 number))

-- The canonical text of a network; the length has no leading zero.
-- Example: `0:0:0:1::/64` for the IPv6 network of number 2^64 and length 64, and `::ffff:0.0.0.0/96` for number
-- 0xffff_0000_0000 and length 96.
abbrev pub canonical_text : Network → List ℕ
canonical_text n = address_text n.family n.number ++ codes "/" ++ decimal n.prefix_len

-- The `len` groups from index `start` on are zero.
-- Example: in 2001:db8:0:0:1:0:0:1 two groups from index 2, and two from index 5.
pub record IsZeroRun (groups : List ℕ) (start len : ℕ) : Type 0 where
  pub within : start + len ≤ length groups
  pub zeros : (k : ℕ) → k < len → slice_index groups (start + k) ≡ 0

-- The run of zero groups that "::" replaces (RFC 5952, section 4.2): a longest run, of two groups or more, and the
-- first of these. Example: in 2001:db8:0:0:1:0:0:1 the two groups from index 2.
pub record IsShortenedRun (groups : List ℕ) (start len : ℕ) : Type 0 where
  pub run : IsZeroRun groups start len
  pub two_or_more : 2 ≤ len
  pub longest : (other more : ℕ) → IsZeroRun groups other more → more ≤ len
  pub first : (other : ℕ) → IsZeroRun groups other len → start ≤ other

-- The text of the groups in hexadecimal, with "::" for that run. If no two zero groups are neighbours, it is all groups
-- joined by ":".
-- Example: `2001:db8::1:0:0:1` for 2001:db8:0:0:1:0:0:1.
abbrev pub IsShortened : List ℕ → List ℕ → Type 0
IsShortened groups text =
    ((start len : ℕ) × IsShortenedRun groups start len
    × (text ≡ groups_text (take start groups) ++ codes "::" ++ groups_text (drop (start + len) groups)))
    ⊎ (((start len : ℕ) → IsZeroRun groups start len → len < 2) × (text ≡ groups_text groups))
