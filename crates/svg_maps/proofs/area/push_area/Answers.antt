use Rattle.std.proofs.Common.{◌++◌, ◌∙◌, ap, string_bytes}
use Rattle.std.proofs.lemmas.Result.{on_ok_weaker}
use Rattle.svg_text.specs.declared.name.ElementName.TheVariants as Elements
use Rattle.svg_text.specs.Documents.{empty_text}
use Rattle.svg_maps.proofs.area.push_area.Goals as goal

pub returns : goal.returns
returns c =
    let old = string_bytes c.args.text.now in
    on_ok_weaker c.push_empty.result
    (λ e. e ∙ ap (λ m. old ++ empty_text Elements.Rect m) c.area_attributes-attributes.ensures)
    c.push_empty.ensures
