use Rattle.ipnet_base.specs.Address.{ipv6_address}
use Rattle.ipnet.proofs.ValueFacts.{one_greatest}
use Rattle.ipnet.specs.NetworkOf.{ipv6_network}
use Rattle.ipnet.proofs.value_laws.ipv6.greatest_address_is_one.Goals as goal

pub returns : goal.returns
returns c last x h =
    one_greatest (ipv6_network c.args.net.now) x (ipv6_address c.args.last.now) h last
