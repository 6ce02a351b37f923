-- The network is joined with the blocks beside it.
use Rattle.ipnet.specs.NetworkOf.{ip_network}
use Rattle.ipnet.specs.NetLaws.{ip_valid}
use Rattle.ipnet_pools.specs.BlocksOf.{blocks_of}
use Rattle.ipnet_pools.proofs.FreeLaws.{own_of, blocks_beside, join_own, join_cover, join_same}
use Rattle.ipnet_pools.proofs.free.FreeBlocks.add.Goals as goal

pub join-requires-clause-beside : goal.join-requires-clause-beside
join-requires-clause-beside c =
    let free = c.args.self.now in
    blocks_beside (blocks_of free.blocks) (own_of free) (ip_network c.args.network.now) (ip_valid c.args.network.now)
    c.requires.leased

pub invariant_of-self : goal.invariant_of-self
invariant_of-self c =
    let free = c.args.self.now in
    record {
      own = join_own (blocks_of free.blocks) (own_of free) (ip_network c.args.network.now)
          (ip_valid c.args.network.now) c.requires.leased (blocks_of c.join.new.blocks) c.join.result
          c.join.ensures.joined c.join.ensures.same;
    }

pub returns-clause-added : goal.returns-clause-added
returns-clause-added c =
    let free = c.args.self.now in
    join_cover (blocks_of free.blocks) (own_of free) (ip_network c.args.network.now) (ip_valid c.args.network.now)
    c.requires.leased (blocks_of c.join.new.blocks) c.join.result c.join.ensures.joined

pub returns-clause-same : goal.returns-clause-same
returns-clause-same c =
    let free = c.args.self.now in
    join_same (blocks_of free.blocks) (own_of free) (ip_network c.args.network.now) (ip_valid c.args.network.now)
    c.requires.leased (blocks_of c.join.new.blocks) c.join.result c.join.ensures.same
