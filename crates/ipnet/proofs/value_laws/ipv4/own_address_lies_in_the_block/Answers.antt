use Rattle.ipnet_base.proofs.BlockLaws.{own_in}
use Rattle.ipnet.specs.NetworkOf.{ipv4_network}
use Rattle.ipnet.proofs.value_laws.ipv4.own_address_lies_in_the_block.Goals as goal

pub returns : goal.returns
returns c =
    own_in (ipv4_network c.args.net.now)
