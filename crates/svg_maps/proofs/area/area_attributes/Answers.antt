use Rattle.svg_text.specs.Documents.{mark_of}
use Rattle.svg_maps.proofs.PageLaws.{five_marks}
use Rattle.svg_maps.proofs.area.area_attributes.Goals as goal

pub returns : goal.returns
returns c =
    five_marks mark_of c.text_attribute.result c.number_attribute.result c.number_attribute-2.result
    c.number_attribute-3.result c.number_attribute-4.result _ _ _ _ _ c.text_attribute.ensures
    c.number_attribute.ensures c.number_attribute-2.ensures c.number_attribute-3.ensures
    c.number_attribute-4.ensures
