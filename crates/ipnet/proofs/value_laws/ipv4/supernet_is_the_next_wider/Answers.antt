use Rattle.ipnet.specs.NetLaws.{ipv4_valid}
use Rattle.ipnet.proofs.ValueFacts.{wider_has_supernet, common_has_supernet}
use Rattle.ipnet.specs.NetworkOf.{ipv4_network}
use Rattle.ipnet.proofs.value_laws.ipv4.supernet_is_the_next_wider.Goals as goal

pub returns-clause-wider : goal.returns-clause-wider
returns-clause-wider c p k v =
    wider_has_supernet (ipv4_network c.args.supernet.now) (ipv4_network c.args.net.now) k (ipv4_valid c.args.net.now)
    v p

pub returns-clause-common : goal.returns-clause-common
returns-clause-common c p m k v =
    common_has_supernet (ipv4_network c.args.supernet.now) (ipv4_network c.args.net.now) m k
    (ipv4_valid c.args.net.now) v p
