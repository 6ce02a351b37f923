use Rattle.std.proofs.Common.{ap, ◌∙◌}
use Rattle.ipnet_base.proofs.BlockLaws.{own, own_in}
use Rattle.ipnet.specs.NetworkOf.{ip_network}
use Rattle.ipnet_base.specs.Network.{Network}
use Rattle.ipnet_fewest.proofs.fewest.whole.Goals as goal

pub returns : goal.returns
returns c =
    let t = c.trunc.ensures in
    let n = ip_network c.trunc.result in
    record {
      network = t.network;
      truncated = t.truncated;
      of_family =
          (t.same_block.0 (own n) (own_in n)).same_family ∙ ap (λ (z : Network). z.family) c.new_assert.ensures;
      all = t.same_len ∙ ap (λ (z : Network). z.prefix_len) c.new_assert.ensures;
    }
