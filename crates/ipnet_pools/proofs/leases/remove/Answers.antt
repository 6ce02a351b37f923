-- The map finds a lease if and only if its list has the lease.
use Rattle.ipnet_pools.proofs.LeaseLaws.{removed, value_found, value_missing}
use Rattle.ipnet_pools.proofs.leases.remove.Goals as goal

pub returns-clause-was : goal.returns-clause-was
returns-clause-was g c =
    value_found _ (λ a b. (c.ip_nets_compare_by_network.ensures.compare a b).order) c.args.leases.now
    c.args.network.now c.remove.result c.remove.ensures.value

pub returns-clause-removed : goal.returns-clause-removed
returns-clause-removed g c =
    removed _ (λ a b. (c.ip_nets_compare_by_network.ensures.compare a b).order) c.args.leases.now c.remove.new.self
    c.args.network.now c.len.ensures.ordered c.remove.ensures.ordered c.remove.ensures.updates

pub returns-clause-none : goal.returns-clause-none
returns-clause-none g c =
    value_missing _ (λ a b. (c.ip_nets_compare_by_network.ensures.compare a b).order) c.args.leases.now
    c.args.network.now c.remove.result c.remove.ensures.value
