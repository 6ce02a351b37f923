-- The map finds a lease if and only if its list has the lease.
use Rattle.ipnet_pools.proofs.LeaseLaws.{inserted}
use Rattle.ipnet_pools.proofs.leases.insert.Goals as goal

pub returns-in-Ok-clause-added : goal.returns-in-Ok-clause-added
returns-in-Ok-clause-added g c =
    inserted _ (λ a b. (c.ip_nets_compare_by_network.ensures.compare a b).order) c.args.leases.now c.insert.new.self
    c.args.network c.insert.ensures.was_ordered c.insert.ensures.ordered c.args.value c.in-Ok.ensures.updates c.requires
