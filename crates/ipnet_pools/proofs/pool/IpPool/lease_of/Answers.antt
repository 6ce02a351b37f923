-- A lease that touches the network of the one address contains the address.
use Rattle.ipnet_base.specs.Address.{ip_address}
use Rattle.ipnet.specs.NetworkOf.{ip_network}
use Rattle.ipnet_pools.proofs.TouchLaws.{found_address, missing_address}
use Rattle.ipnet_pools.proofs.pool.IpPool.lease_of.Goals as goal

pub returns-clause-found : goal.returns-clause-found
returns-clause-found g c =
    found_address c.args.self.now.leases.entries (ip_address c.args.address) (ip_network c.from-host.result)
    c.from-host.ensures c.touching.result c.touching.ensures.found

pub returns-clause-none : goal.returns-clause-none
returns-clause-none g c =
    missing_address c.args.self.now.leases.entries (ip_address c.args.address) (ip_network c.from-host.result)
    c.from-host.ensures c.touching.result c.touching.ensures.none
