-- The networks that a value of `IpSetNetworks` still yields. Contracts see nothing else of a value.
use Rattle.std.specs.Prelude.{List, ◌++◌}
use Rattle.ipnet_base.specs.Network.{Network}
use Rattle.ipnet.specs.SubnetsLeft.{ip_subnets_left}
use Rattle.ipnet_sets.specs.RangeBlocks.{blocks_of}
use Rattle.ipnet_sets.specs.RangesLeft.{ranges_left}
use Rattle.ipnet_sets.specs.declared.set_networks.IpSetNetworks.{IpSetNetworks}

-- The networks that are left of the range that was begun, and then the networks of the ranges that are left.
abbrev pub networks_left : IpSetNetworks → List Network
networks_left s = ip_subnets_left s.walk ++ blocks_of (ranges_left s.ranges)
