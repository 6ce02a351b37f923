use Rattle.ipnet.specs.NetLaws.{ipv6_valid}
use Rattle.ipnet.proofs.ValueFacts.{wider_has_supernet, common_has_supernet}
use Rattle.ipnet.specs.NetworkOf.{ipv6_network}
use Rattle.ipnet.proofs.value_laws.ipv6.supernet_is_the_next_wider.Goals as goal

pub returns-clause-wider : goal.returns-clause-wider
returns-clause-wider c p k v =
    wider_has_supernet (ipv6_network c.args.supernet.now) (ipv6_network c.args.net.now) k (ipv6_valid c.args.net.now)
    v p

pub returns-clause-common : goal.returns-clause-common
returns-clause-common c p m k v =
    common_has_supernet (ipv6_network c.args.supernet.now) (ipv6_network c.args.net.now) m k
    (ipv6_valid c.args.net.now) v p
