-- Two lists of networks, one for each family, as one list.
use Rattle.std.specs.Prelude.{List, ◌++◌, map}
use Rattle.ipnet.specs.Network.{Network}
use Rattle.ipnet.specs.NetworkOf.{ipv4_network, ipv6_network}
use Rattle.ipnet_text.specs.declared.net_lists.NetLists.{NetLists}

-- The networks of the two lists, IPv4 first. Example: 10.0.0.0/24, fd00::/32.
abbrev pub networks_of : NetLists → List Network
networks_of f = map ipv4_network f.ipv4.items ++ map ipv6_network f.ipv6.items
