-- The set has the free addresses.
use Rattle.ipnet_base.specs.Address.{IPv6}
use Rattle.ipnet_sets.specs.Members.{IsMember}
use Rattle.ipnet_pools.specs.PoolOf.{IsFree}
use Rattle.ipnet_pools.proofs.ListedLaws.{some_count_same}
use Rattle.ipnet_pools.proofs.pool.IpPool.ipv6_free_count.Goals as goal

pub returns-clause-some : goal.returns-clause-some
returns-clause-some g c =
    some_count_same (IsMember c.in_ok-free.free) (IsFree c.args.self.now) c.in_ok-free.ensures IPv6
    c.ipv6_count.result c.ipv6_count.ensures.some
