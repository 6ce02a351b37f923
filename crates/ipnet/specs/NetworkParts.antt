-- The parts of a network, its subnets of one length, and its hosts (RFC 4632, section 3.1; RFC 1122, section 3.2.1.3).
use Rattle.std.specs.Prelude.{◌≡◌, ℕ, ◌+◌, ◌-◌, ◌^◌, ◌<◌, ◌↔◌, List, length, Contains}
use Rattle.ipnet_base.specs.Address.{IPv4, Address}
use Rattle.ipnet_base.specs.Network.{Network, IsNetwork, InBlock, IsSubnetOf, IsTruncated, IsLeastOf, IsGreatestOf}
use Rattle.ipnet_base.specs.Blocks.{IsAscending, ArePairwiseDisjoint, AreMaximalBlocks}
use Rattle.ipnet_base.specs.Subnets.{SubnetRange}
use Rattle.ipnet_base.specs.Ranges.{AddressRange}
use Rattle.ipnet_base.specs.Masks as masks

-- The network of this address, with its host bits, and this prefix length. Example: 10.0.0.1 and 24 give 10.0.0.1/24.
abbrev pub network_at : Address → ℕ → Network
network_at x prefix_len = record { family = x.family; number = x.number; prefix_len = prefix_len }

-- The address of the network, with its host bits. Example: 10.0.0.1 for 10.0.0.1/24.
abbrev pub own_address : Network → Address
own_address n = record { family = n.family; number = n.number }

-- The netmask of the network's prefix length, as an address. Example: 255.255.240.0 for 10.1.0.0/20.
abbrev pub netmask : Network → Address
netmask n = record { family = n.family; number = masks.netmask_number n.family n.prefix_len }

-- The host mask of the network's prefix length, as an address. Example: 0.0.15.255 for 10.1.0.0/20.
abbrev pub hostmask : Network → Address
hostmask n = record { family = n.family; number = masks.hostmask_number n.family n.prefix_len }

-- The network has this address, and the prefix length of this netmask. The netmask may be of the other family.
-- Example: 127.0.0.1 and 255.0.0.0 make 127.0.0.1/8; 10.1.1.0 and ffff:ff00:: make 10.1.1.0/24. With 127.0.0.1,
-- 255.0.255.0 makes no network, because it is not a netmask, nor does ffff:ffff:ffff::, because 48 is above 32.
pub record HasAddressAndNetmask (n : Network) (ip mask : Address) : Type 0 where
  pub network : IsNetwork n
  pub address : own_address n ≡ ip
  pub prefix : masks.IsNetmaskOf mask.family mask.number n.prefix_len

-- `k` is a subnet of `n` with this prefix length, and truncated.
-- Example: 10.0.0.64/26 is a subnet of length 26 of 10.0.0.0/24. 10.0.0.9/24 has one subnet of length 24: 10.0.0.0/24.
pub record IsSubnetOfLength (n : Network) (prefix_len : ℕ) (k : Network) : Type 0 where
  pub network : IsNetwork k
  pub truncated : IsTruncated k
  pub of_length : k.prefix_len ≡ prefix_len
  pub within : IsSubnetOf k n

-- The list is all subnets of `n` with this prefix length, ascending. They are disjoint, 2^(prefix_len - n.prefix_len)
-- in number, and the maximal blocks of `n` under that minimum prefix length.
-- Example: 10.0.0.0/26, 10.0.0.64/26, 10.0.0.128/26, 10.0.0.192/26 for 10.0.0.0/24 and 26. For 10.0.0.0/24 and 16, or
-- 33, there is no such list.
pub record AreSubnetsOfLength (n : Network) (prefix_len : ℕ) (networks : List Network) : Type 0 where
  pub ascending : IsAscending networks
  pub members : (k : Network) → Contains networks k ↔ IsSubnetOfLength n prefix_len k
  pub disjoint : ArePairwiseDisjoint networks
  pub count : length networks ≡ 2 ^ (prefix_len - n.prefix_len)
  pub blocks : AreMaximalBlocks (InBlock n) prefix_len networks

-- The range of the whole block of `n`, with this minimum prefix length. The walk over the subnets of `n` starts with
-- it.
-- Example: 10.0.0.0 to 10.0.0.255 with minimum 24 for 10.0.0.9/24 and 24.
abbrev pub IsBlockRange : Network → ℕ → SubnetRange → Type 0
IsBlockRange n prefix_len range = (low high : Address) → IsLeastOf n low → IsGreatestOf n high
    → range ≡ record { family = n.family; start = low.number; end = high.number; min_prefix_len = prefix_len }

-- The network is IPv4, with a prefix length below 31. Its least address denotes the network, and its greatest all of
-- its hosts (RFC 1122, section 3.2.1.3), so neither is a host. With length 31 both addresses are hosts (RFC 3021).
abbrev pub HasReservedEnds : Network → Type 0
HasReservedEnds n = (n.family ≡ IPv4) × (n.prefix_len < 31)

-- The range of the network's hosts: its block, without both ends if they are reserved.
-- Example: 10.0.0.1 to 10.0.0.2 for 10.0.0.0/30; 10.0.0.0 to 10.0.0.1 for 10.0.0.0/31; fd00:: to fd00::3 for
-- fd00::/126.
pub record IsHostRange (n : Network) (hosts : AddressRange) : Type 0 where
  pub family : hosts.family ≡ n.family
  pub inner : HasReservedEnds n → (low high : Address) → IsLeastOf n low → IsGreatestOf n high
      → (hosts.start ≡ low.number + 1) × (hosts.end + 1 ≡ high.number)
  pub whole : ¬ (HasReservedEnds n) → (low high : Address) → IsLeastOf n low → IsGreatestOf n high
      → (hosts.start ≡ low.number) × (hosts.end ≡ high.number)
