use Rattle.std.proofs.Common.{map}
use Rattle.ipnet_base.specs.Network.{IsNetwork}
use Rattle.ipnet_base.proofs.NeighbourLaws.{neighbours_iff_own_aggregate}
use Rattle.ipnet_base.proofs.ListLaws.{All-read}
use Rattle.ipnet.specs.NetLaws.{ip_valid}
use Rattle.ipnet.specs.NetworkOf.{ip_network}
use Rattle.ipnet.proofs.value_laws.ip.neighbours_show_the_aggregate.Goals as goal

pub returns : goal.returns
returns c =
    neighbours_iff_own_aggregate (map ip_network c.args.networks.now)
    (All-read IsNetwork ip_network ip_valid c.args.networks.now)
