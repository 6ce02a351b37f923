use Rattle.ipnet_base.proofs.BlockLaws.{own_in}
use Rattle.ipnet.specs.NetworkOf.{ipv6_network}
use Rattle.ipnet.proofs.value_laws.ipv6.own_address_lies_in_the_block.Goals as goal

pub returns : goal.returns
returns c =
    own_in (ipv6_network c.args.net.now)
