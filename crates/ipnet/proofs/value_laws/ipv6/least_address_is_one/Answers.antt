use Rattle.ipnet_base.specs.Address.{ipv6_address}
use Rattle.ipnet.proofs.ValueFacts.{one_least}
use Rattle.ipnet.specs.NetworkOf.{ipv6_network}
use Rattle.ipnet.proofs.value_laws.ipv6.least_address_is_one.Goals as goal

pub returns : goal.returns
returns c first x h =
    one_least (ipv6_network c.args.net.now) x (ipv6_address c.args.first.now) h first
