use Rattle.std.proofs.Common.{◌≡◌, ◌++◌, map, drop}
use Rattle.netset_lib.specs.RuleAnswers.{unreached_lines}
use Rattle.netset_lib.specs.RuleContentsOf.{line_of_rule}
use Rattle.netset_lib.proofs.rule_answer.push_unreached.Given as goal

-- the text and the lines of the rules that are left are the text before and the lines of all
abbrev pub invariant-loop-unreached : goal.invariant-loop-unreached
invariant-loop-unreached l =
    l.text.items ++ unreached_lines (map line_of_rule l.lines) (drop l.unreached-index l.found)
    ≡ l.fn.text.items ++ unreached_lines (map line_of_rule l.lines) l.found
