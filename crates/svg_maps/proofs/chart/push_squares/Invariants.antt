-- After `i` members of the list the text has their nodes.
use Rattle.std.proofs.Common.{◌≡◌, ◌++◌, flat_map, take, string_bytes}
use Rattle.svg_text.specs.Documents.{nodes_text}
use Rattle.svg_maps.specs.Pages.{square_nodes}
use Rattle.svg_maps.proofs.chart.push_squares.Given as goal

abbrev pub invariant-loop-square : goal.invariant-loop-square
invariant-loop-square l =
    string_bytes l.text
    ≡ string_bytes l.fn.text ++ flat_map (λ x. nodes_text (square_nodes x)) (take l.square-index l.squares)
