use Rattle.ipnet.specs.NetLaws.{ip_valid}
use Rattle.ipnet.proofs.ValueFacts.{subnet_iff_own}
use Rattle.ipnet.specs.NetworkOf.{ip_network}
use Rattle.ipnet.proofs.value_laws.ip.subnets_are_found_by_their_own_address.Goals as goal

pub returns : goal.returns
returns c =
    subnet_iff_own (ip_network c.args.other.now) (ip_network c.args.net.now) (ip_valid c.args.other.now)
    (ip_valid c.args.net.now)
