use Rattle.std.proofs.Common.{string_bytes}
use Rattle.svg_text.specs.Documents.{nodes_text}
use Rattle.svg_maps.specs.Pages.{layer_nodes}
use Rattle.svg_maps.proofs.NodeLaws.{one_more}
use Rattle.svg_maps.proofs.chart.push_layers.Goals as goal

pub loop-layer-preserved : goal.loop-layer-preserved
loop-layer-preserved c =
    one_more (λ x. nodes_text (layer_nodes x)) c.args.layers.now c.loop-layer.layer-index c.layer-item.result
    (string_bytes c.args.text.now) (string_bytes c.loop-layer.text) (string_bytes c.push_layer.new.text)
    c.loop-layer-test.true c.layer-item.is c.loop-layer.invariant c.in_ok-push_layer.ensures
