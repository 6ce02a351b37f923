use Rattle.std.proofs.Common.{ap₂, string_bytes}
use Rattle.std.proofs.lemmas.Result.{on_ok_weaker}
use Rattle.svg_maps.specs.Pages.{area_marks}
use Rattle.svg_maps.proofs.PageLaws.{plain_area, titled_area}
use Rattle.svg_maps.proofs.outline.push_outline.Goals as goal

pub returns-in-None : goal.returns-in-None
returns-in-None c =
    on_ok_weaker c.push_area.result (plain_area _ _ c.args.outline.now.title (string_bytes c.args.text.now)
    (string_bytes c.push_area.new.text)
    (ap₂ area_marks c.outline_class-class.ensures c.rectangle_in_pixels-area.ensures) c.in-None.is) c.push_area.ensures

pub returns-in-Some : goal.returns-in-Some
returns-in-Some c =
    on_ok_weaker c.push_titled_area.result (titled_area _ _ c.args.outline.now.title _ _ (string_bytes c.args.text.now)
    (string_bytes c.push_titled_area.new.text)
    (ap₂ area_marks c.outline_class-class.ensures c.rectangle_in_pixels-area.ensures) c.in-Some.is
    c.as_str.ensures.value) c.push_titled_area.ensures
