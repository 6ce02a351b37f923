-- A new pool has no lease.
use Rattle.example_pools.proofs.tenants.Tenants.new.Goals as goal

pub returns : goal.returns
returns c tenant x (n, leased, a) = c.in_ok-pool.ensures.leases n tenant leased
