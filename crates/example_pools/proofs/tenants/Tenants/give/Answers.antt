-- One lease more, or the same leases.
use Rattle.example_pools.proofs.TenantLaws.{after_lease, after_error}
use Rattle.example_pools.proofs.tenants.Tenants.give.Goals as goal

pub returns-clause-given : goal.returns-clause-given
returns-clause-given c =
    after_lease c.args.self.now.pool c.assign_ipv4.new.self c.args.tenant c.assign_ipv4.result
    c.assign_ipv4.ensures.taken

pub returns-clause-unchanged : goal.returns-clause-unchanged
returns-clause-unchanged c e =
    after_error c.args.self.now.pool c.assign_ipv4.new.self (c.assign_ipv4.ensures.unchanged e)
