use Rattle.std.proofs.Common.{◌++◌, ◌∙◌, [], ap, string_bytes}
use Rattle.std.proofs.lemmas.Result.{on_ok_weaker}
use Rattle.svg_text.specs.declared.name.ElementName.TheVariants as Elements
use Rattle.svg_text.specs.Documents.{start_text, element, words, end}
use Rattle.svg_maps.specs.Pages.{area_marks}
use Rattle.svg_maps.proofs.PageLaws.{element_appended}
use Rattle.svg_maps.proofs.area.push_titled_area.Goals as goal

pub returns : goal.returns
returns c =
    let old = string_bytes c.args.text.now in
    let marks = area_marks c.args.class.now c.args.area in
    let inside = element Elements.Title [] (words c.args.title.now end) end in
    on_ok_weaker c.push_end.result (λ e. element_appended Elements.Rect marks inside old
    (string_bytes c.push_start.new.text) (string_bytes c.push_leaf.new.text) (string_bytes c.push_end.new.text)
    (c.in_ok-push_start.ensures ∙ ap (λ m. old ++ start_text Elements.Rect m) c.area_attributes-attributes.ensures)
    c.in_ok-push_leaf.ensures e) c.push_end.ensures
