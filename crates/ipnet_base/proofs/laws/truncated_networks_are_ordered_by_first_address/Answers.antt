use Rattle.ipnet_base.proofs.OrderLaws.{before_by_first}
use Rattle.ipnet_base.proofs.laws.truncated_networks_are_ordered_by_first_address.Goals as goal

pub returns : goal.returns
returns c = before_by_first
