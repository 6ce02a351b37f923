use Rattle.ipnet.specs.NetLaws.{ipv6_valid}
use Rattle.ipnet.proofs.ValueFacts.{subnet_iff_own}
use Rattle.ipnet.specs.NetworkOf.{ipv6_network}
use Rattle.ipnet.proofs.value_laws.ipv6.subnets_are_found_by_their_own_address.Goals as goal

pub returns : goal.returns
returns c =
    subnet_iff_own (ipv6_network c.args.other.now) (ipv6_network c.args.net.now) (ipv6_valid c.args.other.now)
    (ipv6_valid c.args.net.now)
