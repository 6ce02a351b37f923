use Rattle.std.proofs.Common.{◌++◌, ◌∙◌, codes, ap, string_bytes}
use Rattle.std.proofs.lemmas.Result.{on_ok_weaker}
use Rattle.svg_text.specs.Documents.{nodes_text}
use Rattle.svg_maps.specs.Pages.{area_marks, titled_nodes}
use Rattle.svg_maps.proofs.chart.push_square.Goals as goal

pub returns : goal.returns
returns c =
    let old = string_bytes c.args.text.now in
    let s = c.args.square.now in
    on_ok_weaker c.push_titled_area.result
    (λ e. e ∙ ap (λ w. old ++ nodes_text (titled_nodes (area_marks (codes "hit") s.rectangle) w))
    c.as_str.ensures.value) c.push_titled_area.ensures
