use Rattle.std.proofs.Common.{refl}
use Rattle.ipnet.specs.NetworkOf.{ip_network}
use Rattle.ipnet_maps.specs.Layers.{IsLayerOfCells}
use Rattle.ipnet_maps.proofs.LayerLaws.{zip_more}
use Rattle.ipnet_maps.proofs.layers.layers_of.Goals as goal

pub loop-class-preserved : goal.loop-class-preserved
loop-class-preserved c =
    zip_more (IsLayerOfCells (ip_network c.args.frame.now) c.args.depth) c.args.cells.now c.loop-class.class-index
    c.class-item.result c.loop-class.layers.items c.push.new.self.items (record {
      class = c.class-item.result.class;
      rectangles = c.in_ok-rectangles.rectangles;
    }) c.loop-class-test.true c.class-item.is c.loop-class.invariant (record {
      of_class = refl;
      rectangles = c.in_ok-rectangles.ensures.rectangles;
      shown = c.in_ok-rectangles.ensures.cells;
    }) c.in_ok-push.ensures.items
