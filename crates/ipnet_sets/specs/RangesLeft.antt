-- The ranges that a value of `IpSetRanges` still yields. Contracts see nothing else of a value.
use Rattle.std.specs.Prelude.{List, map, ◌++◌}
use Rattle.ipnet_base.specs.Address.{IPv4, IPv6}
use Rattle.ipnet_base.specs.Ranges.{AddressRange}
use Rattle.ipnet_sets.specs.declared.set_ranges.IpSetRanges.{IpSetRanges}
use Rattle.ipnet_sets.specs.BoundaryRanges.{ranges_of}

-- The IPv4 ranges that are left, and then the IPv6 ranges.
abbrev pub ranges_left : IpSetRanges → List AddressRange
ranges_left r = ranges_of IPv4 (map (λ n. n) r.ipv4.now) ++ ranges_of IPv6 (map (λ n. n) r.ipv6.now)
