use Rattle.ipnet_base.specs.Address.{ipv4_address}
use Rattle.ipnet.proofs.ValueFacts.{one_least}
use Rattle.ipnet.specs.NetworkOf.{ipv4_network}
use Rattle.ipnet.proofs.value_laws.ipv4.least_address_is_one.Goals as goal

pub returns : goal.returns
returns c first x h =
    one_least (ipv4_network c.args.net.now) x (ipv4_address c.args.first.now) h first
