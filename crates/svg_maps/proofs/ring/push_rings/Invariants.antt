-- After `i` members of the list the text has their nodes.
use Rattle.std.proofs.Common.{◌≡◌, ◌++◌, flat_map, take, string_bytes}
use Rattle.svg_text.specs.Documents.{nodes_text}
use Rattle.svg_maps.specs.Pages.{ring_nodes}
use Rattle.svg_maps.proofs.ring.push_rings.Given as goal

abbrev pub invariant-loop-ring : goal.invariant-loop-ring
invariant-loop-ring l =
    string_bytes l.text
    ≡ string_bytes l.fn.text ++ flat_map (λ x. nodes_text (ring_nodes x)) (take l.ring-index l.rings)
