-- Values of the three range types, as contracts see them: the stored range, and the addresses that it still yields.
use Rattle.std.specs.Prelude.{List}
use Rattle.ipnet_base.specs.Address.{IPv4, IPv6, Address}
use Rattle.ipnet_base.specs.Ranges.{AddressRange, addresses_of}
use Rattle.ipnet_base.specs.declared.ipext.ip_range.IpAddrRange.{IpAddrRange}
use Rattle.ipnet_base.specs.declared.ipext.ip_range.IpAddrRange.TheVariants as Ip
use Rattle.ipnet_base.specs.declared.ipext.ipv4_range.Ipv4AddrRange.{Ipv4AddrRange}
use Rattle.ipnet_base.specs.declared.ipext.ipv6_range.Ipv6AddrRange.{Ipv6AddrRange}

-- The family and the stored ends of an `Ipv4AddrRange`. Example: the range from 0.0.0.5 to 0.0.0.3 is IPv4, 5, 3.
abbrev pub ipv4_range : Ipv4AddrRange → AddressRange
ipv4_range r = record { family = IPv4; start = r.start; end = r.end }

-- The family and the stored ends of an `Ipv6AddrRange`.
abbrev pub ipv6_range : Ipv6AddrRange → AddressRange
ipv6_range r = record { family = IPv6; start = r.start; end = r.end }

-- The family and the stored ends of an `IpAddrRange`.
abbrev pub ip_range : IpAddrRange → AddressRange
ip_range (Ip.V4 r) = ipv4_range r
ip_range (Ip.V6 r) = ipv6_range r

-- The addresses that an `Ipv4AddrRange` still yields, ascending. Example: none for the range from 0.0.0.5 to 0.0.0.3.
abbrev pub ipv4_addresses : Ipv4AddrRange → List Address
ipv4_addresses r = addresses_of (ipv4_range r)

-- The addresses that an `Ipv6AddrRange` still yields, ascending.
abbrev pub ipv6_addresses : Ipv6AddrRange → List Address
ipv6_addresses r = addresses_of (ipv6_range r)

-- The addresses that an `IpAddrRange` still yields, ascending.
abbrev pub ip_addresses : IpAddrRange → List Address
ip_addresses r = addresses_of (ip_range r)
