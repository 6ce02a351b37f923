use Rattle.ipnet_base.specs.Address.{ipv6_address}
use Rattle.ipnet_base.proofs.BlockLaws.{block_is_between}
use Rattle.ipnet.specs.NetworkOf.{ipv6_network}
use Rattle.ipnet.proofs.value_laws.ipv6.block_lies_between_its_ends.Goals as goal

pub returns : goal.returns
returns c first last x =
    block_is_between (ipv6_network c.args.net.now) (ipv6_address c.args.first.now) (ipv6_address c.args.last.now) x
    first last
