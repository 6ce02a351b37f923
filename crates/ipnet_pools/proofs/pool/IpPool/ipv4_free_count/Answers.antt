-- The set has the free addresses.
use Rattle.ipnet_base.specs.Address.{IPv4}
use Rattle.ipnet_sets.specs.Members.{IsMember}
use Rattle.ipnet_pools.specs.PoolOf.{IsFree}
use Rattle.ipnet_pools.proofs.ListedLaws.{count_same}
use Rattle.ipnet_pools.proofs.pool.IpPool.ipv4_free_count.Goals as goal

pub returns : goal.returns
returns g c =
    count_same (IsMember c.in_ok-free.free) (IsFree c.args.self.now) c.in_ok-free.ensures IPv4 c.ipv4_count.result
    c.ipv4_count.ensures
