-- The other half is added, and then the rest of the block without the supernet.
use Rattle.std.proofs.Common.{arith}
use Rattle.ipnet.specs.NetLaws.{ip_valid}
use Rattle.ipnet.specs.NetworkOf.{ip_network}
use Rattle.ipnet_pools.specs.BlocksOf.{blocks_of}
use Rattle.ipnet_pools.proofs.SplitLaws.{split_whole, supernet_part, supernet_none, split_more, split_undone}
use Rattle.ipnet_pools.proofs.pieces.+split.Goals as goal

pub returns-then-prefix_len-clause-split : goal.returns-then-prefix_len-clause-split
returns-then-prefix_len-clause-split t c =
    split_whole (ip_network c.args.part.now) (ip_network c.args.block.now) (ip_valid c.args.part.now)
    (ip_valid c.args.block.now) c.requires.part (blocks_of c.args.blocks.now) (omega arith)

pub split-requires : goal.split-requires
split-requires t c =
    let n = ip_network c.args.part.now in
    let b = ip_network c.args.block.now in
    let h = ip_network c.other_half-half.result in
    let above = c.in-Some.ensures.some in
    let half = c.other_half-half.ensures in (
      omega (arith, above.shorter),
      (
        supernet_part n b (ip_valid c.args.part.now) (ip_valid c.args.block.now) c.requires.part
            (ip_network c.in-Some.supernet) h above (ip_valid c.other_half-half.result) half.truncated half.halves
            (omega arith),
        supernet_none n b (ip_valid c.args.part.now) (ip_valid c.args.block.now) c.requires.part
            (ip_network c.in-Some.supernet) h above (ip_valid c.other_half-half.result) half.truncated half.halves
            (omega arith) (blocks_of c.args.blocks.now) (blocks_of c.insert.new.self) c.in_ok-insert.ensures.added
            c.requires.none,
      ),
    )

pub returns-in-Ok-clause-split : goal.returns-in-Ok-clause-split
returns-in-Ok-clause-split t c =
    let n = ip_network c.args.part.now in
    let b = ip_network c.args.block.now in
    let h = ip_network c.other_half-half.result in
    let above = c.in-Some.ensures.some in
    let half = c.other_half-half.ensures in
    split_more n b (ip_valid c.args.part.now) (ip_valid c.args.block.now) c.requires.part
    (ip_network c.in-Some.supernet) h above (ip_valid c.other_half-half.result) half.truncated half.halves
    (omega arith) (blocks_of c.args.blocks.now) (blocks_of c.insert.new.self) c.in_ok-insert.ensures.added
    (blocks_of c.split.new.blocks) c.in-Ok.ensures.split

pub returns-in-Err-clause-same : goal.returns-in-Err-clause-same
returns-in-Err-clause-same t c =
    let n = ip_network c.args.part.now in
    let b = ip_network c.args.block.now in
    let h = ip_network c.other_half-half.result in
    let above = c.in-Some.ensures.some in
    let half = c.other_half-half.ensures in
    split_undone n b (ip_valid c.args.part.now) (ip_valid c.args.block.now) c.requires.part
    (ip_network c.in-Some.supernet) h above (ip_valid c.other_half-half.result) half.truncated half.halves
    (omega arith) (blocks_of c.args.blocks.now) (blocks_of c.insert.new.self) c.in_ok-insert.ensures.added
    (blocks_of c.split.new.blocks) (blocks_of c.remove.new.self) c.requires.none c.in-Err.ensures.same c.remove.ensures
