use Rattle.ipnet_base.proofs.NetworkLaws.{same_from_block}
use Rattle.ipnet_base.proofs.laws.truncated_networks_are_their_blocks.Goals as goal

pub returns : goal.returns
returns c = same_from_block
