use Rattle.std.proofs.Common.{map, subst, ◌≡◌, ◌++◌}
use Rattle.netset_lib.specs.RuleAnswers.{covering_lines}
use Rattle.netset_lib.specs.RuleContentsOf.{line_of_rule}
use Rattle.netset_lib.proofs.RuleAnswerLaws.{unreached_more, unreached_all}
use Rattle.netset_lib.proofs.rule_answer.push_unreached.Goals as goal

pub loop-unreached-preserved : goal.loop-unreached-preserved
loop-unreached-preserved c =
    unreached_more (map line_of_rule c.args.lines.now) c.args.found.now c.loop-unreached.unreached-index
    c.unreached-item.result c.args.text.now.items c.loop-unreached.text.items c.push_line_at.new.text.items
    c.push_covering.new.text.items c.loop-unreached-test.true c.unreached-item.is c.in_ok-push_line_at.ensures
    (subst
    (λ z. c.push_covering.new.text.items
    ≡ c.push_line_at.new.text.items ++ covering_lines (map line_of_rule c.args.lines.now) z) c.as_slice.ensures.value
    c.in_ok-push_covering.ensures) c.loop-unreached.invariant

pub returns : goal.returns
returns c =
    unreached_all (map line_of_rule c.args.lines.now) c.args.found.now c.loop-unreached.unreached-index
    c.args.text.now.items c.loop-unreached.text.items c.loop-unreached-test.false c.loop-unreached.invariant
