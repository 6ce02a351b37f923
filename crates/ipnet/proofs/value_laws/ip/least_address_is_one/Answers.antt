use Rattle.ipnet_base.specs.Address.{ip_address}
use Rattle.ipnet.proofs.ValueFacts.{one_least}
use Rattle.ipnet.specs.NetworkOf.{ip_network}
use Rattle.ipnet.proofs.value_laws.ip.least_address_is_one.Goals as goal

pub returns : goal.returns
returns c first x h =
    one_least (ip_network c.args.net.now) x (ip_address c.args.first.now) h first
