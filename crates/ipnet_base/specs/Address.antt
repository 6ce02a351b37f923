-- IPv4 and IPv6 addresses, their order, and sets of addresses (RFC 791, section 3.1; RFC 4291, section 2).
-- A set of addresses is its membership: a property that an address has if and only if it is in the set.
use Rattle.std.specs.Prelude.{◌≡◌, ℕ, ◌-◌, ◌^◌, ◌<◌, ◌≤◌, ◌⊎◌, Bool, IsTrue}
use Rattle.std.specs.Net.Addr.{ipv4_bits, ipv6_bits}
use Rattle.std.specs.declared.net.ip_addr.IpAddr.{IpAddr}
use Rattle.std.specs.declared.net.ip_addr.IpAddr.TheVariants as Ip
use Rattle.std.specs.declared.net.ipv4_addr.Ipv4Addr.{Ipv4Addr}
use Rattle.std.specs.declared.net.ipv6_addr.Ipv6Addr.{Ipv6Addr}

-- The two address families. They share no address: 1.2.3.4 and ::ffff:1.2.3.4 are two addresses.
pub data Family : Type 0 where
  IPv4 : Family
  IPv6 : Family

-- The number of bits of an address of the family.
abbrev pub width : Family → ℕ
width IPv4 = 32
width IPv6 = 128

-- The number of the family's last address. IPv4: 2^32 - 1 = 4294967295, the number of 255.255.255.255.
abbrev pub greatest_number : Family → ℕ
greatest_number family = 2 ^ width family - 1

-- The place of the family in every order: IPv4 comes before IPv6. It is also the family's byte in the tagged compact
-- form.
abbrev pub family_index : Family → ℕ
family_index IPv4 = 0
family_index IPv6 = 1

-- An address: its family, and its octets read as one number, the most significant octet first.
-- Example: 10.0.0.1 is IPv4 with number 10 * 2^24 + 1 = 167772161.
pub record Address : Type 0 where
  pub family : Family
  pub number : ℕ

-- The order of addresses: IPv4 before IPv6, then by number.
-- Example: 10.0.0.1 comes before 10.0.0.2, and 255.255.255.255 comes before `::`.
abbrev pub IsAddressBefore : Address → Address → Type 0
IsAddressBefore x y = (family_index x.family < family_index y.family)
    ⊎ ((x.family ≡ y.family) × (x.number < y.number))

-- The address of this family with this number. Example: `address_at IPv4 1` is 0.0.0.1.
abbrev pub address_at : Family → ℕ → Address
address_at family number = record { family = family; number = number }

-- The number fits in the family's width. Example: 2^32 is the number of an IPv6 address, `::1:0:0`, and not of an IPv4
-- address.
abbrev pub IsAddress : Address → Type 0
IsAddress x = x.number < 2 ^ width x.family

-- The addresses of the family from `start` to `end`, both included. The set is empty if `start > end`.
-- Example: from 0.0.0.1 to 0.0.0.6 are six addresses; from 0.0.0.5 to 0.0.0.3 there are none.
pub record IsBetween (family : Family) (start end : ℕ) (x : Address) : Type 0 where
  pub of_family : x.family ≡ family
  pub from_start : start ≤ x.number
  pub to_end : x.number ≤ end

-- The addresses for which a test returns true. Example: the test `λ x. nat_le x.number 9` accepts `::9` and not `::a`.
abbrev pub IsAcceptedBy : (Address → Bool) → Address → Type 0
IsAcceptedBy test x = IsTrue (test x)

-- The address that a value of the standard library's `Ipv4Addr` represents: its four octets as one number.
abbrev pub ipv4_address : Ipv4Addr → Address
ipv4_address a = record { family = IPv4; number = ipv4_bits a }

-- The address that a value of `Ipv6Addr` represents: its eight groups as one number.
abbrev pub ipv6_address : Ipv6Addr → Address
ipv6_address a = record { family = IPv6; number = ipv6_bits a }

-- The address that a value of `IpAddr` represents. `IpAddr::V6(::ffff:1.2.3.4)` is an IPv6 address.
abbrev pub ip_address : IpAddr → Address
ip_address (Ip.V4 a) = ipv4_address a
ip_address (Ip.V6 a) = ipv6_address a
