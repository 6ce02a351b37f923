-- Networks, and the block of addresses of a network (RFC 4632, section 3.1; RFC 4291, section 2.3).
use Rattle.std.specs.Prelude.{◌≡◌, ◌≢◌, ℕ, ◌+◌, ◌-◌, ◌*◌, ◌/◌, ◌^◌, ◌<◌, ◌≤◌, ◌⊎◌}
use Rattle.ipnet_base.specs.Address.{Family, Address, width, family_index}

-- A network: an address, with its host bits, and a prefix length. 10.0.0.1/24 and 10.0.0.0/24 are two networks.
pub record Network : Type 0 where
  pub family : Family
  pub number : ℕ
  pub prefix_len : ℕ

-- The address is one of its family, and the prefix is at most as long as an address: 32 bits for IPv4, 128 for IPv6.
pub record IsNetwork (n : Network) : Type 0 where
  pub address_fits : n.number < 2 ^ width n.family
  pub prefix_fits : n.prefix_len ≤ width n.family

-- The number of low bits of an address that the prefix does not fix. Example: 10.0.0.1/24 has 32 - 24 = 8.
abbrev pub host_bits : Network → ℕ
host_bits n = width n.family - n.prefix_len

-- The address is in the network's block: it has the network's family, and equals it in the first `prefix_len` bits.
-- Example: the block of 10.0.0.1/24 is 10.0.0.0 to 10.0.0.255, the x with x / 256 = 167772161 / 256 = 655360. The block
-- of 172.16.0.0/0 is every IPv4 address.
pub record InBlock (n : Network) (x : Address) : Type 0 where
  pub same_family : x.family ≡ n.family
  pub same_prefix : x.number / 2 ^ host_bits n ≡ n.number / 2 ^ host_bits n

-- The number of the first address of the block: the network's number with the host bits cleared.
-- Example: for 10.0.0.1/24 it is 655360 * 256, the number of 10.0.0.0.
abbrev pub first_of : Network → ℕ
first_of n = n.number / 2 ^ host_bits n * 2 ^ host_bits n

-- The number of the last address of the block. Example: for 10.0.0.1/24 it is 655360 * 256 + 255, the number of
-- 10.0.0.255.
abbrev pub last_of : Network → ℕ
last_of n = first_of n + (2 ^ host_bits n - 1)

-- The least address of the block: the network address. Example: 172.16.0.0 for 172.16.0.0/22.
pub record IsLeastOf (n : Network) (x : Address) : Type 0 where
  pub inside : InBlock n x
  pub least : (y : Address) → InBlock n y → x.number ≤ y.number

-- The greatest address of the block: the broadcast address of an IPv4 network. Example: 172.16.3.255 for 172.16.0.0/22.
pub record IsGreatestOf (n : Network) (x : Address) : Type 0 where
  pub inside : InBlock n x
  pub greatest : (y : Address) → InBlock n y → y.number ≤ x.number

-- The block of `n` lies in the block of `k`.
-- Example: 192.168.0.0/25 is a subnet of 192.168.0.0/24 and of itself, but not of 192.168.1.0/24.
abbrev pub IsSubnetOf : Network → Network → Type 0
IsSubnetOf n k = (x : Address) → InBlock n x → InBlock k x

-- The two blocks have the same addresses. Example: 10.0.0.1/24 and 10.0.0.0/24.
abbrev pub HaveSameBlock : Network → Network → Type 0
HaveSameBlock n k = IsSubnetOf n k × IsSubnetOf k n

-- The two blocks have no address in common. Read: if an address is in both blocks, that is impossible (`⊥`).
-- Example: 192.168.0.0/24 and 192.168.1.0/24; or networks of two families.
abbrev pub AreDisjoint : Network → Network → Type 0
AreDisjoint n k = (x : Address) → InBlock n x → InBlock k x → ⊥

-- No host bit is set: the network's own address is the least of its block. Example: 10.0.0.0/24, and not 10.0.0.1/24.
abbrev pub IsTruncated : Network → Type 0
IsTruncated n = (x : Address) → InBlock n x → n.number ≤ x.number

-- The network with its host bits cleared. Example: 192.168.12.34/16 becomes 192.168.0.0/16.
abbrev pub truncation : Network → Network
truncation n = record n { number = n.number / 2 ^ host_bits n * 2 ^ host_bits n }

-- `t` is the truncation of `n`, by its properties: it is truncated, and has the length and the block of `n`.
-- Example: 192.168.0.0/16 is the truncation of 192.168.12.34/16.
pub record IsTruncationOf (t n : Network) : Type 0 where
  pub network : IsNetwork t
  pub truncated : IsTruncated t
  pub same_len : t.prefix_len ≡ n.prefix_len
  pub same_block : HaveSameBlock t n

-- `s` is the supernet of `n`: truncated, one bit shorter, and its block contains the block of `n`.
-- Example: 172.16.0.0/23 is the supernet of 172.16.1.0/24. A network of prefix length 0 has none.
pub record IsSupernetOf (s n : Network) : Type 0 where
  pub network : IsNetwork s
  pub truncated : IsTruncated s
  pub shorter : s.prefix_len + 1 ≡ n.prefix_len
  pub contains : IsSubnetOf n s

-- Two networks of the same family and length, above 0, that have the same supernet. Each network is its own sibling.
-- Example: 10.1.0.0/24 and 10.1.1.0/24, in 10.1.0.0/23; but not 10.1.1.0/24 and 10.1.2.0/24.
pub record AreSiblings (n k : Network) : Type 0 where
  pub same_family : n.family ≡ k.family
  pub same_len : n.prefix_len ≡ k.prefix_len
  pub has_supernet : 0 < n.prefix_len
  pub same_supernet : n.number / 2 ^ (host_bits n + 1) ≡ k.number / 2 ^ (host_bits n + 1)

-- Siblings with two different blocks: the two halves of one supernet. Example: 10.1.0.0/24 and 10.1.1.0/24.
pub record AreHalves (n k : Network) : Type 0 where
  pub siblings : AreSiblings n k
  pub differ : n.number / 2 ^ host_bits n ≢ k.number / 2 ^ host_bits n

-- The order of networks: IPv4 before IPv6, then by the address with its host bits, then by the length.
-- Example: 10.0.0.0/8, 10.0.0.0/24, 10.0.0.1/8 and ::/0 are in this order.
abbrev pub IsBefore : Network → Network → Type 0
IsBefore n k = (family_index n.family < family_index k.family)
    ⊎ ((n.family ≡ k.family) × ((n.number < k.number) ⊎ ((n.number ≡ k.number) × (n.prefix_len < k.prefix_len))))
