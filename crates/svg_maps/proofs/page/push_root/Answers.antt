use Rattle.std.proofs.Common.{◌++◌, ◌∙◌, ap, refl, string_bytes}
use Rattle.std.proofs.lemmas.Result.{on_ok_weaker}
use Rattle.svg_text.specs.declared.name.ElementName.TheVariants as Elements
use Rattle.svg_text.specs.declared.name.AttributeName.TheVariants as Attributes
use Rattle.svg_text.specs.declared.tag.Attribute.{Attribute}
use Rattle.svg_text.specs.declared.tag.Value.TheVariants as Values
use Rattle.svg_text.specs.Documents.{mark_of, start_text}
use Rattle.svg_maps.proofs.PageLaws.{six_marks}
use Rattle.svg_maps.proofs.page.push_root.Goals as goal

pub returns : goal.returns
returns c =
    let old = string_bytes c.args.text.now in
    let area = c.args.area in
    let view_box : Attribute = record { name = Attributes.ViewBox; value = Values.ViewBox area.width area.height } in
    let marks = six_marks mark_of c.text_attribute.result view_box c.number_attribute.result c.number_attribute-2.result
    c.text_attribute-2.result c.text_attribute-3.result _ _ _ _ _ _ c.text_attribute.ensures refl
    c.number_attribute.ensures c.number_attribute-2.ensures c.text_attribute-2.ensures c.text_attribute-3.ensures in
    on_ok_weaker c.push_start.result (λ e. e ∙ ap (λ m. old ++ start_text Elements.Svg m) marks) c.push_start.ensures
