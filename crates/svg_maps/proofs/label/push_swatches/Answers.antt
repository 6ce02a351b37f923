use Rattle.std.proofs.Common.{string_bytes}
use Rattle.svg_text.specs.Documents.{nodes_text}
use Rattle.svg_maps.specs.Pages.{swatch_nodes}
use Rattle.svg_maps.proofs.NodeLaws.{one_more}
use Rattle.svg_maps.proofs.label.push_swatches.Goals as goal

pub loop-swatch-preserved : goal.loop-swatch-preserved
loop-swatch-preserved c =
    one_more (λ x. nodes_text (swatch_nodes x)) c.args.swatches.now c.loop-swatch.swatch-index c.swatch-item.result
    (string_bytes c.args.text.now) (string_bytes c.loop-swatch.text) (string_bytes c.push_swatch.new.text)
    c.loop-swatch-test.true c.swatch-item.is c.loop-swatch.invariant c.in_ok-push_swatch.ensures
