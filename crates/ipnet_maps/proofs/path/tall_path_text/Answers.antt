use Rattle.std.proofs.Common.{◌+◌, ◌∙◌, take, filter, get_or, string_bytes, sym, ap, lt-ltb, le-ltb}
use Rattle.ipnet_maps.specs.Paths.{corner, is_tall, path_of}
use Rattle.ipnet_maps.proofs.PathLaws.{last_place, drawn_more, one_passes, one_fails}
use Rattle.ipnet_maps.proofs.path.tall_path_text.Goals as goal
use Rattle.ipnet_maps.proofs.path.tall_path_text.Goals.{then-rectangle-gt1+in_ok-push_rectangle, else-rectangle-gt1}

pub loop-rectangle-preserved : goal.loop-rectangle-preserved
loop-rectangle-preserved c =
    let rs = c.args.rectangles.now in
    let i = c.loop-rectangle.rectangle-index in
    let before = c.loop-rectangle.invariant in
    elim c.if-rectangle-gt1.branch [
      | then-rectangle-gt1+in_ok-push_rectangle w ↦
          let one = one_passes is_tall rs i _ c.loop-rectangle-test.true (lt-ltb 1 _ w.if-rectangle-gt1.true) in
          let drawn = drawn_more (filter is_tall (take i rs)) (filter is_tall (take (i + 1) rs)) corner (get_or rs i _)
          (string_bytes c.loop-rectangle.text) (string_bytes w.push_rectangle.new.text) c.loop-rectangle.pen one
          w.in_ok-push_rectangle.ensures before in
          record { spelled = ap string_bytes w.text-is ∙ drawn.spelled; at = w.pen-is ∙ drawn.at }
      | else-rectangle-gt1 w ↦
          let same = one_fails is_tall rs i _ c.loop-rectangle-test.true (le-ltb 1 _ w.if-rectangle-gt1.false) in
          record {
            spelled = ap string_bytes w.text-is ∙ before.spelled ∙ ap (path_of corner) (sym same);
            at = w.pen-is ∙ before.at ∙ ap (last_place corner) (sym same);
          }
    ]
