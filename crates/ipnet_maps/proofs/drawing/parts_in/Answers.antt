use Rattle.ipnet.specs.NetworkOf.{ip_network}
use Rattle.ipnet_maps.specs.Lists.{IsPartOf}
use Rattle.ipnet_maps.proofs.LayerLaws.{zip_more}
use Rattle.ipnet_maps.proofs.drawing.parts_in.Goals as goal

pub loop-set-preserved : goal.loop-set-preserved
loop-set-preserved c =
    zip_more (IsPartOf (ip_network c.args.frame.now)) c.args.sets.now c.loop-set.set-index c.set-item.result
    c.loop-set.parts.items c.push.new.self.items c.in_ok-part.part c.loop-set-test.true c.set-item.is
    c.loop-set.invariant c.in_ok-part.ensures.members c.in_ok-push.ensures.items
