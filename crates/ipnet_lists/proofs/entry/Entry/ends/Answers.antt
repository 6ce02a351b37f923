use Rattle.ipnet.specs.NetworkOf.{ip_network}
use Rattle.ipnet_lists.proofs.EndLaws.{least_is_first, greatest_is_last}
use Rattle.ipnet_lists.proofs.entry.Entry.ends.Goals as goal

pub returns-in-Network-clause-first : goal.returns-in-Network-clause-first
returns-in-Network-clause-first c =
    rw c.in-Network.is (least_is_first (ip_network c.in-Network.network) _ c.network.ensures)

pub returns-in-Network-clause-last : goal.returns-in-Network-clause-last
returns-in-Network-clause-last c =
    rw c.in-Network.is (greatest_is_last (ip_network c.in-Network.network) _ c.broadcast.ensures)
