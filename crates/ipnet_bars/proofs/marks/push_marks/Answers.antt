use Rattle.std.proofs.Common.{◌++◌, ◌∙◌, ap, string_bytes, take_all}
use Rattle.ipnet_bars.specs.MarkTexts.{marks_text}
use Rattle.ipnet_bars.proofs.MarkLaws.{one_mark_more}
use Rattle.ipnet_bars.proofs.marks.push_marks.Goals as goal

pub loop-level-preserved : goal.loop-level-preserved
loop-level-preserved c =
    one_mark_more c.args.marks c.args.levels.now c.loop-level.level-index (string_bytes c.args.text.now)
    (string_bytes c.loop-level.text) (string_bytes c.push_str.new.self) c.loop-level-test.true c.loop-level.invariant
    (c.in_ok-push_str.ensures.bytes ∙ ap (λ z. string_bytes c.loop-level.text ++ z) c.mark_of.ensures)

pub returns : goal.returns
returns c =
    c.loop-level.invariant
    ∙ ap (λ z. string_bytes c.args.text.now ++ marks_text c.args.marks z)
    (take_all c.loop-level.level-index c.args.levels.now c.loop-level-test.false)
