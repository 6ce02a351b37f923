-- Leases that share an address are of one network, which has one value.
use Rattle.ipnet_pools.proofs.KeepLaws.{one_lease}
use Rattle.ipnet_pools.proofs.pool.IpPool.has_one_lease_of_each_address.Goals as goal

pub returns : goal.returns
returns g c n m v w x h i a b =
    one_lease c.args.self.now c.have_one_value.ensures n m v w x h i a b
