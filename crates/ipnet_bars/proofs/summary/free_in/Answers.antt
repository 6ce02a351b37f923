use Rattle.std.proofs.Common.{map}
use Rattle.std.proofs.lemmas.Result.{IfOk-weaker}
use Rattle.ipnet_base.specs.Blocks.{AreMaximalBlocks}
use Rattle.ipnet_base.proofs.UniqueLaws.{AreMaximalBlocks-same_set}
use Rattle.ipnet.specs.NetworkOf.{ip_network}
use Rattle.ipnet_sets.specs.Members.{IsMember}
use Rattle.ipnet_bars.specs.Summaries.{IsFree}
use Rattle.ipnet_bars.proofs.summary.free_in.Goals as goal

pub returns : goal.returns
returns c =
    let free = c.in_ok-free.free in
    let n = ip_network c.args.network.now in
    IfOk-weaker c.networks.result (λ list. AreMaximalBlocks (IsMember free) 0 (map ip_network list.items))
    (λ list. AreMaximalBlocks (IsFree (IsMember c.args.set.now) n) 0 (map ip_network list.items))
    (λ list blocks. AreMaximalBlocks-same_set (IsMember free) (IsFree (IsMember c.args.set.now) n) 0
    (map ip_network list.items)
    (λ x. (
      λ m.
          let k = (c.in_ok-free.ensures.members x).0 m in
          record { in_block = (c.in_ok-block.ensures x).0 k.0; out = k.1 },
      λ f. (c.in_ok-free.ensures.members x).1 ((c.in_ok-block.ensures x).1 f.in_block, f.out),
    )) blocks)
    c.networks.ensures.blocks
