-- After `i` members of the list the text has their nodes.
use Rattle.std.proofs.Common.{◌≡◌, ◌++◌, flat_map, take, string_bytes}
use Rattle.svg_text.specs.Documents.{nodes_text}
use Rattle.svg_maps.specs.Pages.{outline_nodes}
use Rattle.svg_maps.proofs.outline.push_outlines.Given as goal

abbrev pub invariant-loop-outline : goal.invariant-loop-outline
invariant-loop-outline l =
    string_bytes l.text
    ≡ string_bytes l.fn.text ++ flat_map (λ x. nodes_text (outline_nodes l.scale x)) (take l.outline-index l.outlines)
