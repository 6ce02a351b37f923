use Rattle.std.proofs.Common.{◌≡◌, ◌++◌, map, drop}
use Rattle.netset_lib.specs.RuleAnswers.{covering_lines}
use Rattle.netset_lib.specs.RuleContentsOf.{line_of_rule}
use Rattle.netset_lib.proofs.rule_answer.push_covering.Given as goal

-- the text and the lines that are left are the text before and all lines
abbrev pub invariant-loop-place : goal.invariant-loop-place
invariant-loop-place l =
    l.text.items ++ covering_lines (map line_of_rule l.lines) (drop l.place l.indexes)
    ≡ l.fn.text.items ++ covering_lines (map line_of_rule l.lines) l.indexes
