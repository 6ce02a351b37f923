use Rattle.std.proofs.Common.{map}
use Rattle.ipnet_base.specs.Network.{IsNetwork}
use Rattle.ipnet_base.proofs.NeighbourLaws.{neighbours_iff_own_aggregate}
use Rattle.ipnet_base.proofs.ListLaws.{All-read}
use Rattle.ipnet.specs.NetLaws.{ipv4_valid}
use Rattle.ipnet.specs.NetworkOf.{ipv4_network}
use Rattle.ipnet.proofs.value_laws.ipv4.neighbours_show_the_aggregate.Goals as goal

pub returns : goal.returns
returns c =
    neighbours_iff_own_aggregate (map ipv4_network c.args.networks.now)
    (All-read IsNetwork ipv4_network ipv4_valid c.args.networks.now)
