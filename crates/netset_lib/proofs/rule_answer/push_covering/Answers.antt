use Rattle.std.proofs.Common.{map, arith}
use Rattle.netset_lib.specs.RuleContentsOf.{line_of_rule}
use Rattle.netset_lib.proofs.RuleAnswerLaws.{cover_more, cover_all}
use Rattle.netset_lib.proofs.rule_answer.push_covering.Goals as goal

pub loop-place-preserved : goal.loop-place-preserved
loop-place-preserved c =
    cover_more (map line_of_rule c.args.lines.now) c.args.indexes.now c.loop-place.place c.args.text.now.items
    c.loop-place.text.items c.extend_from_slice.new.self.items c.push_line_at.new.text.items c.loop-place-test.true
    c.in_ok-extend_from_slice.ensures.items c.in_ok-push_line_at.ensures c.loop-place.invariant

pub returns : goal.returns
returns c =
    cover_all (map line_of_rule c.args.lines.now) c.args.indexes.now c.loop-place.place c.args.text.now.items
    c.loop-place.text.items (omega (arith, c.loop-place-test.false)) c.loop-place.invariant
