-- The blocks are the maximal blocks of the set.
use Rattle.std.proofs.Common.{map, sym, subst}
use Rattle.ipnet_base.specs.Blocks.{AreMaximalBlocks}
use Rattle.ipnet.specs.NetworkOf.{ip_network}
use Rattle.ipnet_sets.specs.Members.{IsMember}
use Rattle.ipnet_pools.specs.BlocksOf.{blocks_of}
use Rattle.ipnet_pools.proofs.ListedLaws.{set_own, set_cover}
use Rattle.ipnet_pools.proofs.free.FreeBlocks.new.Goals as goal

pub invariant_of-result : goal.invariant_of-result
invariant_of-result c =
    let set = c.args.set.now in
    record {
      own = set_own set (map ip_network c.deref.result.now) (blocks_of c.in_ok-blocks.blocks)
          (subst (λ z. AreMaximalBlocks (IsMember set) 0 (map ip_network z)) (sym c.deref.ensures.value)
          c.in_ok-networks.ensures.blocks) c.in_ok-blocks.ensures;
    }

pub returns : goal.returns
returns c =
    let set = c.args.set.now in
    set_cover set (map ip_network c.deref.result.now) (blocks_of c.in_ok-blocks.blocks)
    (subst (λ z. AreMaximalBlocks (IsMember set) 0 (map ip_network z)) (sym c.deref.ensures.value)
    c.in_ok-networks.ensures.blocks) c.in_ok-blocks.ensures
