use Rattle.std.proofs.Common.{string_bytes}
use Rattle.std.proofs.lemmas.Result.{on_ok_weaker}
use Rattle.svg_text.specs.declared.name.ElementName.TheVariants as Elements
use Rattle.svg_maps.specs.Pages.{place_marks, chart_nodes}
use Rattle.svg_maps.proofs.PageLaws.{element_appended}
use Rattle.svg_maps.proofs.page.push_placed.Goals as goal

pub returns : goal.returns
returns c =
    let h = c.args.chart in
    on_ok_weaker c.push_end.result (element_appended Elements.Group (place_marks c.args.place)
    (chart_nodes h.layers.now h.squares.now h.outlines.now h.rings.now h.labels.now h.sides h.scale)
    (string_bytes c.args.text.now)
    (string_bytes c.push_start.new.text) (string_bytes c.push_chart.new.text) (string_bytes c.push_end.new.text)
    c.in_ok-push_start.ensures c.in_ok-push_chart.ensures) c.push_end.ensures
