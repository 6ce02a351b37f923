-- The keys come one after the other.
use Rattle.ipnet_pools.specs.BlocksOf.{blocks_of}
use Rattle.ipnet_pools.proofs.ListedLaws.{keys_start, keys_more, keys_end}
use Rattle.ipnet_pools.proofs.block_set.BlockSet.networks.Goals as goal

pub loop-key-init : goal.loop-key-init
loop-key-init c =
    keys_start c.new-networks.result.items c.into_iter-key-iterator.result c.iter-key-items.result
    c.args.self.now.keys.keys c.new-networks.ensures.items c.into_iter-key-iterator.ensures.into_iter_gives
    c.iter-key-items.ensures.rest

pub loop-key-preserved : goal.loop-key-preserved
loop-key-preserved c =
    keys_more (blocks_of c.args.self.now) c.loop-key.networks.items c.push.new.self.items c.loop-key.key-iterator
    c.next.new.self c.in-Some.key.now c.in-Some.ensures.steps c.in_ok-push.ensures.items c.loop-key.invariant

pub returns : goal.returns
returns c =
    keys_end (blocks_of c.args.self.now) c.loop-key.networks.items c.loop-key.key-iterator c.in-None.ensures.steps.0
    c.loop-key.invariant
