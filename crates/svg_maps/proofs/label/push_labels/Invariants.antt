-- After `i` members of the list the text has their nodes.
use Rattle.std.proofs.Common.{◌≡◌, ◌++◌, flat_map, take, string_bytes}
use Rattle.svg_text.specs.Documents.{nodes_text}
use Rattle.svg_maps.specs.Pages.{label_nodes}
use Rattle.svg_maps.proofs.label.push_labels.Given as goal

abbrev pub invariant-loop-label : goal.invariant-loop-label
invariant-loop-label l =
    string_bytes l.text
    ≡ string_bytes l.fn.text ++ flat_map (λ x. nodes_text (label_nodes x)) (take l.label-index l.labels)
