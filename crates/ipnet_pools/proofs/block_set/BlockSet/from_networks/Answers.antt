-- The networks come one after the other.
use Rattle.std.proofs.Common.{◌+◌, drop, arith}
use Rattle.std.proofs.lemmas.List.{drop_all}
use Rattle.ipnet_pools.specs.BlocksOf.{blocks_of}
use Rattle.ipnet_pools.proofs.ListedLaws.{listed_more, listed_end, item_here}
use Rattle.ipnet_pools.proofs.block_set.BlockSet.from_networks.Goals as goal

pub loop-network-preserved : goal.loop-network-preserved
loop-network-preserved c =
    let all = c.args.networks.now in
    let i = c.loop-network.network-index in
    listed_more all (drop i all) (drop (i + 1) all) c.network-item.result (blocks_of c.loop-network.set)
    (blocks_of c.insert.new.self) (item_here all i c.network-item.result c.loop-network-test.true c.network-item.is)
    c.loop-network.invariant c.in_ok-insert.ensures.added

pub returns : goal.returns
returns c =
    let all = c.args.networks.now in
    let i = c.loop-network.network-index in
    listed_end all (drop i all) (blocks_of c.loop-network.set)
    (drop_all i all (omega (arith, c.loop-network-test.false))) c.loop-network.invariant
