use Rattle.ipnet_base.proofs.BlockLaws.{own_in}
use Rattle.ipnet.specs.NetworkOf.{ip_network}
use Rattle.ipnet.proofs.value_laws.ip.own_address_lies_in_the_block.Goals as goal

pub returns : goal.returns
returns c =
    own_in (ip_network c.args.net.now)
