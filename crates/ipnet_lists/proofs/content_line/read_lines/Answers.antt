use Rattle.std.proofs.Common.{length, sym, ◌∙◌, subst, eqb-true}
use Rattle.ipnet_text.proofs.LineCuts.{empty_text}
use Rattle.ipnet_lists.specs.ContentLines.{OrBroken}
use Rattle.ipnet_lists.specs.Lists.{after_mark}
use Rattle.ipnet_lists.proofs.ContentLaws.{AreTakenBefore, before_start, before_more, before_end}
use Rattle.ipnet_lists.proofs.content_line.read_lines.Goals as goal

pub lines-init : goal.lines-init
lines-init g c =
    let takes = g.H.LineHandler.takes c.args.handler.now in
    let is_cause = OrBroken (g.H.LineHandler.broken c.args.handler.now) (g.H.LineHandler.is_cause c.args.handler.now) in
    let bytes = after_mark c.args.bytes.now in
    subst (λ z. AreTakenBefore takes is_cause bytes c.args.made.now 0 z c.args.made.now c.new-refused.result)
    (sym c.skip_mark-rest.ensures)
    (before_start takes is_cause bytes c.args.made.now c.new-refused.result c.new-refused.ensures)

pub lines-preserved : goal.lines-preserved
lines-preserved g c =
    before_more (g.H.LineHandler.takes c.args.handler.now)
    (OrBroken (g.H.LineHandler.broken c.args.handler.now) (g.H.LineHandler.is_cause c.args.handler.now))
    (after_mark c.args.bytes.now) c.args.made.now c.lines.number c.in_ok-number.number c.lines.rest.now
    c.first_line_of_bytes.result.0.now c.contents_of-text.result.now c.first_line_of_bytes.result.1.now c.lines.made
    c.take_line.new.made c.lines.refused c.take_line.new.refused c.lines.invariant c.first_line_of_bytes.ensures.lines
    c.in_ok-number.ensures.next c.contents_of-text.ensures c.in_ok-take_line.ensures

pub returns : goal.returns
returns g c =
    let takes = g.H.LineHandler.takes c.args.handler.now in
    let is_cause = OrBroken (g.H.LineHandler.broken c.args.handler.now) (g.H.LineHandler.is_cause c.args.handler.now) in
    let bytes = after_mark c.args.bytes.now in
    let none = empty_text c.lines.rest.now
    (eqb-true (length c.lines.rest.now) 0 (sym c.is_empty.ensures ∙ c.lines-test.false)) in
    let h = subst (λ z. AreTakenBefore takes is_cause bytes c.args.made.now c.lines.number z c.lines.made
    c.lines.refused) none c.lines.invariant in
    (h.refusals, before_end takes is_cause bytes c.args.made.now c.lines.number c.lines.made c.lines.refused h, h.kept)
