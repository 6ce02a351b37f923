-- The map finds a lease if and only if its list has the lease.
use Rattle.ipnet_pools.proofs.LeaseLaws.{borrowed_found, borrowed_missing}
use Rattle.ipnet_pools.proofs.leases.get.Goals as goal

pub returns-clause-found : goal.returns-clause-found
returns-clause-found g c =
    borrowed_found _ (λ a b. (c.ip_nets_compare_by_network.ensures.compare a b).order) c.args.leases.now
    c.args.network.now c.get.result c.get.ensures.value

pub returns-clause-none : goal.returns-clause-none
returns-clause-none g c =
    borrowed_missing _ (λ a b. (c.ip_nets_compare_by_network.ensures.compare a b).order) c.args.leases.now
    c.args.network.now c.get.result c.get.ensures.value
