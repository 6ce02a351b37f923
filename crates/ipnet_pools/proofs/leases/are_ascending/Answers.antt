-- The map is ordered, and its order is the order of networks.
use Rattle.ipnet_pools.proofs.LeaseLaws.{ascending}
use Rattle.ipnet_pools.proofs.leases.are_ascending.Goals as goal

pub returns : goal.returns
returns g c =
    ascending _ (λ a b. (c.ip_nets_compare_by_network.ensures.compare a b).order) c.args.leases.now
    c.iter.ensures.ordered
