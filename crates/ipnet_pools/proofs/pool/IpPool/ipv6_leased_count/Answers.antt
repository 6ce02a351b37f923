-- The set has the leased addresses.
use Rattle.ipnet_base.specs.Address.{IPv6}
use Rattle.ipnet_sets.specs.Members.{IsMember}
use Rattle.ipnet_pools.specs.PoolOf.{IsInUse}
use Rattle.ipnet_pools.proofs.ListedLaws.{some_count_same}
use Rattle.ipnet_pools.proofs.pool.IpPool.ipv6_leased_count.Goals as goal

pub returns-clause-some : goal.returns-clause-some
returns-clause-some g c =
    some_count_same (IsMember c.in_ok-leased.leased) (IsInUse c.args.self.now) c.in_ok-leased.ensures IPv6
    c.ipv6_count.result c.ipv6_count.ensures.some
