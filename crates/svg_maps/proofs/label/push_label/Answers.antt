use Rattle.std.proofs.Common.{◌++◌, ◌∙◌, ap, ap₂, string_bytes}
use Rattle.std.proofs.lemmas.Result.{on_ok_weaker}
use Rattle.svg_text.specs.declared.name.ElementName.TheVariants as Elements
use Rattle.svg_text.specs.declared.name.AttributeName.TheVariants as Attributes
use Rattle.svg_text.specs.Documents.{mark_of, nodes_text, element, words, end}
use Rattle.svg_maps.specs.Pages.{text_mark}
use Rattle.svg_maps.proofs.PageLaws.{four_marks}
use Rattle.svg_maps.proofs.label.push_label.Goals as goal

pub returns : goal.returns
returns c =
    let old = string_bytes c.args.text.now in
    let marks = four_marks mark_of c.text_attribute.result c.text_attribute-2.result c.number_attribute.result
    c.number_attribute-2.result _ _ _ _ (c.text_attribute.ensures ∙ ap (text_mark Attributes.Class) c.ink_class.ensures)
    (c.text_attribute-2.ensures ∙ ap (text_mark Attributes.TextAnchor) c.anchor_name.ensures)
    c.number_attribute.ensures c.number_attribute-2.ensures in
    on_ok_weaker c.push_leaf.result (λ e. e ∙ ap₂ (λ m w. old ++ nodes_text (element Elements.Text m (words w end) end))
    marks c.as_str.ensures.value) c.push_leaf.ensures
