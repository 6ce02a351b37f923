use Rattle.ipnet.specs.NetworkOf.{ip_network}
use Rattle.ipnet_bars.proofs.PartLaws.{one_value_more}
use Rattle.ipnet_maps.specs.Places.{IsRectangleIn}
use Rattle.ipnet_maps.proofs.places.rectangles_in.Goals as goal

pub loop-network-preserved : goal.loop-network-preserved
loop-network-preserved c =
    one_value_more (IsRectangleIn (ip_network c.args.frame.now) c.args.depth) ip_network c.args.networks.now
    c.loop-network.network-index c.network-item.result c.rectangle_in.result c.loop-network.rectangles.items
    c.push.new.self.items c.loop-network-test.true c.network-item.is c.loop-network.invariant
    c.rectangle_in.ensures.rectangle c.in_ok-push.ensures.items
