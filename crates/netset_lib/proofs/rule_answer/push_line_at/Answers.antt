use Rattle.netset_lib.specs.RuleAnswers.{line_text}
use Rattle.netset_lib.specs.RuleContentsOf.{line_of_rule}
use Rattle.netset_lib.proofs.RuleAnswerLaws.{appended_here, appended_past}
use Rattle.netset_lib.proofs.rule_answer.push_line_at.Goals as goal

pub returns-in-Some : goal.returns-in-Some
returns-in-Some c =
    appended_here line_text line_of_rule c.args.lines.now c.args.index c.in-Some.line.now c.args.text.now.items _
    c.push_line.result c.push_line.ensures c.in-Some.ensures.lookup.3.0 c.in-Some.ensures.lookup.1

pub returns-in-None : goal.returns-in-None
returns-in-None c =
    appended_past line_text line_of_rule c.args.lines.now c.args.index c.args.text.now.items c.in-None.ensures.lookup.3
