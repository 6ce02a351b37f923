use Rattle.std.proofs.Common.{string_bytes}
use Rattle.svg_text.specs.Documents.{nodes_text}
use Rattle.svg_maps.specs.Pages.{square_nodes}
use Rattle.svg_maps.proofs.NodeLaws.{one_more}
use Rattle.svg_maps.proofs.chart.push_squares.Goals as goal

pub loop-square-preserved : goal.loop-square-preserved
loop-square-preserved c =
    one_more (λ x. nodes_text (square_nodes x)) c.args.squares.now c.loop-square.square-index c.square-item.result
    (string_bytes c.args.text.now) (string_bytes c.loop-square.text) (string_bytes c.push_square.new.text)
    c.loop-square-test.true c.square-item.is c.loop-square.invariant c.in_ok-push_square.ensures
