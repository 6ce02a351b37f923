use Rattle.std.proofs.Common.{map}
use Rattle.ipnet_base.specs.Network.{IsNetwork}
use Rattle.ipnet_base.proofs.NeighbourLaws.{neighbours_iff_own_aggregate}
use Rattle.ipnet_base.proofs.ListLaws.{All-read}
use Rattle.ipnet.specs.NetLaws.{ipv6_valid}
use Rattle.ipnet.specs.NetworkOf.{ipv6_network}
use Rattle.ipnet.proofs.value_laws.ipv6.neighbours_show_the_aggregate.Goals as goal

pub returns : goal.returns
returns c =
    neighbours_iff_own_aggregate (map ipv6_network c.args.networks.now)
    (All-read IsNetwork ipv6_network ipv6_valid c.args.networks.now)
