-- One lease less, or the same leases.
use Rattle.ipnet.specs.Network.{truncation}
use Rattle.ipnet.specs.NetworkOf.{ip_network}
use Rattle.example_pools.proofs.TenantLaws.{after_release, after_error}
use Rattle.example_pools.proofs.tenants.Tenants.take_back.Goals as goal

pub returns-clause-others : goal.returns-clause-others
returns-clause-others c =
    after_release c.args.self.now.pool c.release.new.self (truncation (ip_network c.args.network.now))
    c.release.result c.release.ensures.released

pub returns-clause-unchanged : goal.returns-clause-unchanged
returns-clause-unchanged c e =
    after_error c.args.self.now.pool c.release.new.self (c.release.ensures.unchanged e)
