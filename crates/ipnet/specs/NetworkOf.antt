-- The network that a value of each of the three network types represents. Contracts see nothing else of a value.
use Rattle.std.specs.Prelude.{ℕ, ◌+◌, ◌*◌, ◌/◌, ◌%◌, ◌^◌}
use Rattle.ipnet_base.specs.Address.{IPv4, IPv6}
use Rattle.ipnet_base.specs.Network.{Network}
use Rattle.ipnet.specs.declared.net.IpNet.{IpNet}
use Rattle.ipnet.specs.declared.net.IpNet.TheVariants as Ip
use Rattle.ipnet.specs.declared.net.ipv4_net.Ipv4Net.{Ipv4Net}
use Rattle.ipnet.specs.declared.net.ipv6_net.Ipv6Net.{Ipv6Net}

-- The IPv4 network with this number and prefix length.
abbrev pub ipv4_network_of : ℕ → ℕ → Network
ipv4_network_of number prefix_len = record { family = IPv4; number = number; prefix_len = prefix_len }

-- The IPv6 network with this number and prefix length.
abbrev pub ipv6_network_of : ℕ → ℕ → Network
ipv6_network_of number prefix_len = record { family = IPv6; number = number; prefix_len = prefix_len }

-- The network of an `Ipv4Net`. The upper 32 bits of its word are the number, the lower 32 bits the prefix length.
-- Example: 10.1.1.7/24 is stored as the word 167837959 * 2^32 + 24.
abbrev pub ipv4_network : Ipv4Net → Network
ipv4_network n = ipv4_network_of (n.word / 2 ^ 32) (n.word % 2 ^ 32)

-- The network of an `Ipv6Net`. The number is stored as its upper and its lower 64 bits.
-- Example: fd00::1/64 is stored as high = 0xfd00 * 2^48, low = 1 and the prefix length 64.
abbrev pub ipv6_network : Ipv6Net → Network
ipv6_network n = ipv6_network_of (n.high * 2 ^ 64 + n.low) n.prefix_len

-- The network of an `IpNet`: an IPv4 or an IPv6 network.
abbrev pub ip_network : IpNet → Network
ip_network (Ip.V4 n) = ipv4_network n
ip_network (Ip.V6 n) = ipv6_network n
