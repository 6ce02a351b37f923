-- The lease is of the truncation, and no other network stands for it.
use Rattle.ipnet.specs.NetworkOf.{ip_network}
use Rattle.ipnet_pools.proofs.PoolLaws.{found_leased, missing_leased}
use Rattle.ipnet_pools.proofs.pool.IpPool.get.Goals as goal

pub returns-clause-found : goal.returns-clause-found
returns-clause-found g c =
    found_leased c.args.self.now.leases.entries c.trunc-network.result (ip_network c.args.network.now)
    c.trunc-network.ensures c.get.result c.get.ensures.found

pub returns-clause-none : goal.returns-clause-none
returns-clause-none g c =
    missing_leased c.args.self.now.leases.entries c.trunc-network.result (ip_network c.args.network.now)
    c.trunc-network.ensures c.get.result c.get.ensures.none
