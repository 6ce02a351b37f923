use Rattle.std.proofs.Common.{◌++◌, ◌∙◌, ap, flat_map, string_bytes}
use Rattle.std.proofs.lemmas.Result.{on_ok_weaker}
use Rattle.svg_text.specs.declared.name.ElementName.TheVariants as Elements
use Rattle.svg_text.specs.Documents.{element, end, joined, nodes_text}
use Rattle.svg_maps.specs.Pages.{layer_nodes, square_nodes, outline_nodes, ring_nodes, label_nodes, nodes_of}
use Rattle.svg_maps.specs.Pages.{small_marks}
use Rattle.svg_maps.proofs.NodeLaws.{nodes_of_text, each_then}
use Rattle.svg_maps.proofs.PageLaws.{chart_joined}
use Rattle.svg_maps.proofs.chart.push_chart.Goals as goal

pub returns : goal.returns
returns c =
    let chart = c.args.chart in
    let outlines = chart.outlines.now in
    let small = element Elements.Group small_marks (nodes_of label_nodes chart.labels.now) end in
    let over = each_then (outline_nodes chart.scale) outlines (joined (nodes_of ring_nodes chart.rings.now) small)
    ∙ ap (λ z. flat_map (λ o. nodes_text (outline_nodes chart.scale o)) outlines ++ z)
    (each_then ring_nodes chart.rings.now small) in
    on_ok_weaker c.push_small.result (λ e. chart_joined (string_bytes c.args.text.now) _ _ _ _ _ _ _ _ _ _ _ _ _ _ _ _
    _ (string_bytes c.push_ground.new.text) (string_bytes c.push_cells.new.text) (string_bytes c.push_grid.new.text)
    (string_bytes c.push_areas.new.text) (string_bytes c.push_outlines.new.text) (string_bytes c.push_rings.new.text)
    (string_bytes c.push_small.new.text) (nodes_of_text layer_nodes chart.layers.now)
    (nodes_of_text square_nodes chart.squares.now) (nodes_of_text label_nodes chart.labels.now) over
    c.in_ok-push_ground.ensures c.in_ok-push_cells.ensures c.in_ok-push_grid.ensures c.in_ok-push_areas.ensures
    c.in_ok-push_outlines.ensures c.in_ok-push_rings.ensures e) c.push_small.ensures
