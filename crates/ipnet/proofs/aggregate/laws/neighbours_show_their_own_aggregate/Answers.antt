-- Each value is a network, so `neighbours_iff_own_aggregate` applies.
use Rattle.std.proofs.Common.{map}
use Rattle.ipnet_base.specs.Network.{IsNetwork}
use Rattle.ipnet_base.proofs.NeighbourLaws.{neighbours_iff_own_aggregate}
use Rattle.ipnet_base.proofs.ListLaws.{All-read}
use Rattle.ipnet.specs.NetworkOf.{ipv4_network, ipv6_network, ip_network}
use Rattle.ipnet.specs.NetLaws.{ipv4_valid, ipv6_valid, ip_valid}
use Rattle.ipnet.proofs.aggregate.laws.neighbours_show_their_own_aggregate.Goals as goal

pub returns-clause-of_ipv4 : goal.returns-clause-of_ipv4
returns-clause-of_ipv4 c networks =
    neighbours_iff_own_aggregate (map ipv4_network networks) (All-read IsNetwork ipv4_network ipv4_valid networks)

pub returns-clause-of_ipv6 : goal.returns-clause-of_ipv6
returns-clause-of_ipv6 c networks =
    neighbours_iff_own_aggregate (map ipv6_network networks) (All-read IsNetwork ipv6_network ipv6_valid networks)

pub returns-clause-of_either : goal.returns-clause-of_either
returns-clause-of_either c networks =
    neighbours_iff_own_aggregate (map ip_network networks) (All-read IsNetwork ip_network ip_valid networks)
