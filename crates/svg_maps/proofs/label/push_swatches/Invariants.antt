-- After `i` members of the list the text has their nodes.
use Rattle.std.proofs.Common.{◌≡◌, ◌++◌, flat_map, take, string_bytes}
use Rattle.svg_text.specs.Documents.{nodes_text}
use Rattle.svg_maps.specs.Pages.{swatch_nodes}
use Rattle.svg_maps.proofs.label.push_swatches.Given as goal

abbrev pub invariant-loop-swatch : goal.invariant-loop-swatch
invariant-loop-swatch l =
    string_bytes l.text
    ≡ string_bytes l.fn.text ++ flat_map (λ x. nodes_text (swatch_nodes x)) (take l.swatch-index l.swatches)
