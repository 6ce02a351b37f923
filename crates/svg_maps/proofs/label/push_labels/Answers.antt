use Rattle.std.proofs.Common.{string_bytes}
use Rattle.svg_text.specs.Documents.{nodes_text}
use Rattle.svg_maps.specs.Pages.{label_nodes}
use Rattle.svg_maps.proofs.NodeLaws.{one_more}
use Rattle.svg_maps.proofs.label.push_labels.Goals as goal

pub loop-label-preserved : goal.loop-label-preserved
loop-label-preserved c =
    one_more (λ x. nodes_text (label_nodes x)) c.args.labels.now c.loop-label.label-index c.label-item.result
    (string_bytes c.args.text.now) (string_bytes c.loop-label.text) (string_bytes c.push_label.new.text)
    c.loop-label-test.true c.label-item.is c.loop-label.invariant c.in_ok-push_label.ensures
