-- The set has the leased addresses.
use Rattle.ipnet_base.specs.Address.{IPv4}
use Rattle.ipnet_sets.specs.Members.{IsMember}
use Rattle.ipnet_pools.specs.PoolOf.{IsInUse}
use Rattle.ipnet_pools.proofs.ListedLaws.{count_same}
use Rattle.ipnet_pools.proofs.pool.IpPool.ipv4_leased_count.Goals as goal

pub returns : goal.returns
returns g c =
    count_same (IsMember c.in_ok-leased.leased) (IsInUse c.args.self.now) c.in_ok-leased.ensures IPv4
    c.ipv4_count.result
    c.ipv4_count.ensures
