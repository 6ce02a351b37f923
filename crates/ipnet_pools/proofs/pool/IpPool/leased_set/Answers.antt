-- The leased addresses belong to the pool and are not free.
use Rattle.ipnet_pools.specs.PoolOf.{IsFree}
use Rattle.ipnet_pools.proofs.ListedLaws.{rest_members}
use Rattle.ipnet_pools.proofs.pool.IpPool.leased_set.Goals as goal

pub returns : goal.returns
returns g c =
    rest_members c.args.self.now.whole c.in_ok-free.free (IsFree c.args.self.now) c.in_ok-free.ensures
    c.difference.result c.difference.ensures.members
