use Rattle.std.proofs.Common.{◌+◌, ◌∙◌, take, get_or, refl, ap, string_bytes}
use Rattle.std.proofs.lemmas.List.{take_more, take_all}
use Rattle.ipnet_maps.specs.Paths.{corner, path_of}
use Rattle.ipnet_maps.proofs.PathLaws.{drawn_more}
use Rattle.ipnet_maps.proofs.path.path_text.Goals as goal

pub loop-rectangle-init : goal.loop-rectangle-init
loop-rectangle-init c = record { spelled = c.new-text.ensures.bytes; at = refl }

pub loop-rectangle-preserved : goal.loop-rectangle-preserved
loop-rectangle-preserved c =
    let rs = c.args.rectangles.now in
    let i = c.loop-rectangle.rectangle-index in
    drawn_more (take i rs) (take (i + 1) rs) corner (get_or rs i _) (string_bytes c.loop-rectangle.text)
    (string_bytes c.push_rectangle.new.text) c.loop-rectangle.from (take_more rs i _ c.loop-rectangle-test.true)
    c.in_ok-push_rectangle.ensures c.loop-rectangle.invariant

pub returns : goal.returns
returns c =
    c.loop-rectangle.invariant.spelled
    ∙ ap (path_of corner)
    (take_all c.loop-rectangle.rectangle-index c.args.rectangles.now c.loop-rectangle-test.false)
