use Rattle.ipnet.specs.NetLaws.{ipv4_valid}
use Rattle.ipnet.proofs.ValueFacts.{subnet_iff_own}
use Rattle.ipnet.specs.NetworkOf.{ipv4_network}
use Rattle.ipnet.proofs.value_laws.ipv4.subnets_are_found_by_their_own_address.Goals as goal

pub returns : goal.returns
returns c =
    subnet_iff_own (ipv4_network c.args.other.now) (ipv4_network c.args.net.now) (ipv4_valid c.args.other.now)
    (ipv4_valid c.args.net.now)
