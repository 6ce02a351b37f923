use Rattle.ipnet_base.specs.Address.{ipv4_address}
use Rattle.ipnet.proofs.ValueFacts.{one_greatest}
use Rattle.ipnet.specs.NetworkOf.{ipv4_network}
use Rattle.ipnet.proofs.value_laws.ipv4.greatest_address_is_one.Goals as goal

pub returns : goal.returns
returns c last x h =
    one_greatest (ipv4_network c.args.net.now) x (ipv4_address c.args.last.now) h last
