use Rattle.ipnet_base.specs.Address.{ip_address}
use Rattle.ipnet.proofs.ValueFacts.{one_greatest}
use Rattle.ipnet.specs.NetworkOf.{ip_network}
use Rattle.ipnet.proofs.value_laws.ip.greatest_address_is_one.Goals as goal

pub returns : goal.returns
returns c last x h =
    one_greatest (ip_network c.args.net.now) x (ip_address c.args.last.now) h last
