use Rattle.std.proofs.Common.{rules, string_bytes}
use Rattle.svg_text.specs.Documents.{nodes_text}
use Rattle.svg_maps.specs.Pages.{ring_nodes}
use Rattle.svg_maps.proofs.NodeLaws.{one_more}
use Rattle.svg_maps.proofs.ring.push_rings.Goals as goal

pub loop-ring-preserved : goal.loop-ring-preserved
loop-ring-preserved c =
    one_more (λ x. nodes_text (ring_nodes x)) c.args.rings.now c.loop-ring.ring-index _
    (string_bytes c.args.text.now) (string_bytes c.loop-ring.text) (string_bytes c.push_ring.new.text)
    c.loop-ring-test.true (search rules) c.loop-ring.invariant c.in_ok-push_ring.ensures
