-- The map is ordered, so it has each network once.
use Rattle.ipnet_pools.proofs.LeaseLaws.{one_value}
use Rattle.ipnet_pools.proofs.leases.have_one_value.Goals as goal

pub returns : goal.returns
returns g c =
    one_value _ (λ a b. (c.ip_nets_compare_by_network.ensures.compare a b).order) c.args.leases.now
    c.iter.ensures.ordered
