use Rattle.std.proofs.Common.{string_bytes}
use Rattle.svg_text.specs.declared.name.ElementName.TheVariants as Elements
use Rattle.svg_maps.specs.Pages.{page_view, content_nodes, root_marks}
use Rattle.svg_maps.proofs.PageLaws.{element_whole}
use Rattle.svg_maps.proofs.page.page_text.Goals as goal

pub returns : goal.returns
returns c =
    let area = c.args.page.area in
    element_whole Elements.Svg (root_marks area.width area.height) (content_nodes (page_view c.args.page c.args.chart))
    (string_bytes c.new-text.result) (string_bytes c.push_root.new.text) (string_bytes c.push_content.new.text)
    (string_bytes c.push_end.new.text) c.new-text.ensures.bytes c.in_ok-push_root.ensures
    c.in_ok-push_content.ensures c.in_ok-push_end.ensures
