-- The block that contains the network is split, and goes.
use Rattle.ipnet.specs.NetworkOf.{ip_network}
use Rattle.ipnet.specs.NetLaws.{ip_valid}
use Rattle.ipnet_pools.specs.BlocksOf.{blocks_of}
use Rattle.ipnet_pools.proofs.FreeLaws.{own_of, has_holder, no_pieces, same_own, same_cover, cut_own, cut_cover}
use Rattle.ipnet_pools.proofs.ListedLaws.{on_err}
use Rattle.ipnet_pools.proofs.free.FreeBlocks.cut.Goals as goal

pub unreachable-requires : goal.unreachable-requires
unreachable-requires c =
    let free = c.args.self.now in
    has_holder (blocks_of free.blocks) (own_of free) (ip_network c.args.network.now) (ip_valid c.args.network.now)
    c.requires.truncated c.requires.free c.in_default.ensures.none

pub split-requires-clause-none : goal.split-requires-clause-none
split-requires-clause-none c =
    let free = c.args.self.now in
    no_pieces (blocks_of free.blocks) (own_of free) (ip_network c.args.network.now) (ip_network c.in-Some.block)
    (ip_valid c.args.network.now) c.requires.truncated c.in-Some.ensures.found.0 c.in-Some.ensures.found.1

pub invariant_of-self : goal.invariant_of-self
invariant_of-self c =
    let free = c.args.self.now in
    record {
      own = same_own (blocks_of free.blocks) (own_of free) (blocks_of c.split.new.blocks) c.in_err-split.ensures.same;
    }

pub returns-in_err-split-clause-same : goal.returns-in_err-split-clause-same
returns-in_err-split-clause-same c =
    let free = c.args.self.now in
    on_err c.from_residual.result
    (same_cover (blocks_of free.blocks) (own_of free) (blocks_of c.split.new.blocks) c.in_err-split.ensures.same)

pub invariant_of-self-2 : goal.invariant_of-self-2
invariant_of-self-2 c =
    let free = c.args.self.now in
    record {
      own = cut_own (blocks_of free.blocks) (own_of free) (ip_network c.args.network.now) (ip_network c.in-Some.block)
          (ip_valid c.args.network.now) c.requires.truncated c.in-Some.ensures.found.0 c.in-Some.ensures.found.1
          (blocks_of c.split.new.blocks) (blocks_of c.remove.new.self) c.in_ok-split.ensures.split c.remove.ensures;
    }

pub returns-clause-cut : goal.returns-clause-cut
returns-clause-cut c =
    let free = c.args.self.now in
    record {
      was_free = c.requires.free;
      free = cut_cover (blocks_of free.blocks) (own_of free) (ip_network c.args.network.now)
          (ip_network c.in-Some.block) (ip_valid c.args.network.now) c.requires.truncated
          c.in-Some.ensures.found.0 c.in-Some.ensures.found.1 (blocks_of c.split.new.blocks)
          (blocks_of c.remove.new.self) c.in_ok-split.ensures.split c.remove.ensures;
    }
