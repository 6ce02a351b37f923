use Rattle.ipnet_base.specs.Address.{ip_address}
use Rattle.ipnet_base.proofs.BlockLaws.{block_is_between}
use Rattle.ipnet.specs.NetworkOf.{ip_network}
use Rattle.ipnet.proofs.value_laws.ip.block_lies_between_its_ends.Goals as goal

pub returns : goal.returns
returns c first last x =
    block_is_between (ip_network c.args.net.now) (ip_address c.args.first.now) (ip_address c.args.last.now) x first last
