use Rattle.std.proofs.Common.{◌++◌, ◌∙◌, ap, string_bytes, take_all}
use Rattle.ipnet_bars.specs.ComparisonBars.{changes_text}
use Rattle.ipnet_bars.proofs.ComparisonLaws.{one_change_more}
use Rattle.ipnet_bars.proofs.comparison_bar.push_change_marks.Goals as goal

pub loop-change-preserved : goal.loop-change-preserved
loop-change-preserved c =
    one_change_more c.args.marks c.args.changes.now c.loop-change.change-index (string_bytes c.args.text.now)
    (string_bytes c.loop-change.text) (string_bytes c.push_str.new.self) c.loop-change-test.true
    c.loop-change.invariant
    (c.in_ok-push_str.ensures.bytes ∙ ap (λ z. string_bytes c.loop-change.text ++ z) c.change_mark.ensures)

pub returns : goal.returns
returns c =
    c.loop-change.invariant
    ∙ ap (λ z. string_bytes c.args.text.now ++ changes_text c.args.marks z)
    (take_all c.loop-change.change-index c.args.changes.now c.loop-change-test.false)
