use Rattle.std.proofs.Common.{string_bytes}
use Rattle.svg_text.specs.Documents.{nodes_text}
use Rattle.svg_maps.specs.Pages.{outline_nodes}
use Rattle.svg_maps.proofs.NodeLaws.{one_more}
use Rattle.svg_maps.proofs.outline.push_outlines.Goals as goal

pub loop-outline-preserved : goal.loop-outline-preserved
loop-outline-preserved c =
    one_more (λ x. nodes_text (outline_nodes c.args.scale x)) c.args.outlines.now c.loop-outline.outline-index
    c.outline-item.result (string_bytes c.args.text.now) (string_bytes c.loop-outline.text)
    (string_bytes c.push_outline.new.text) c.loop-outline-test.true c.outline-item.is c.loop-outline.invariant
    c.in_ok-push_outline.ensures
