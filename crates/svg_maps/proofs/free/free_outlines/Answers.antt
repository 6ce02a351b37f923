use Rattle.ipnet.specs.NetworkOf.{ip_network}
use Rattle.ipnet_bars.proofs.PartLaws.{one_value_more}
use Rattle.svg_maps.specs.FreeOutlines.{IsFreeOutline}
use Rattle.svg_maps.proofs.free.free_outlines.Goals as goal

pub loop-block-preserved : goal.loop-block-preserved
loop-block-preserved c =
    one_value_more (IsFreeOutline c.args.is_largest (ip_network c.args.frame.now) c.args.depth) ip_network
    c.args.blocks.now c.loop-block.block-index c.block-item.result c.in_ok-outline.outline c.loop-block.outlines.items
    c.push.new.self.items c.loop-block-test.true c.block-item.is c.loop-block.invariant
    c.in_ok-outline.ensures c.in_ok-push.ensures.items
