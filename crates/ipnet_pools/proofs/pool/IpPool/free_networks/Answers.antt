-- The set has the free addresses.
use Rattle.std.proofs.Common.{map}
use Rattle.ipnet.specs.NetworkOf.{ip_network}
use Rattle.ipnet_sets.specs.Members.{IsMember}
use Rattle.ipnet_pools.specs.PoolOf.{IsFree}
use Rattle.ipnet_pools.proofs.ListedLaws.{ok_blocks_same}
use Rattle.ipnet_pools.proofs.pool.IpPool.free_networks.Goals as goal

pub returns : goal.returns
returns g c =
    ok_blocks_same (IsMember c.in_ok-free.free) (IsFree c.args.self.now) c.in_ok-free.ensures
    (λ list. map ip_network list.items) c.networks.result c.networks.ensures.blocks
