-- The address is in no lease.
use Rattle.example_pools.proofs.tenants.Tenants.tenant_of.Goals as goal

pub returns-in-None-clause-none : goal.returns-in-None-clause-none
returns-in-None-clause-none c t (n, leased, a) = c.in-None.ensures.none n t leased a
