-- A list of rules that was read, as contracts see it.
use Rattle.std.specs.Prelude.{ℕ, List, map}
use Rattle.ipnet.specs.declared.parser.Grammar.{Grammar}
use Rattle.ipnet_lists.specs.ContentLines.{ContentLine}
use Rattle.ipnet_lists.specs.Lists.{RefusalFor}
use Rattle.ipnet_lists.specs.RefusedLines.{AreRefused}
use Rattle.netset_lib.specs.declared.rule_cause.RuleCause.{RuleCause}
use Rattle.netset_lib.specs.declared.rule_list.RuleLine.{RuleLine}
use Rattle.netset_lib.specs.declared.rule_list.RuleList.{RuleList}
use Rattle.netset_lib.specs.RuleLines.{RuleContents, IsRuleList}

-- The line that a value represents.
abbrev pub line_of_rule : RuleLine → ContentLine
line_of_rule l = record { number = l.number; text = l.text.items }

-- The rules of the list, and their lines.
abbrev pub contents_of : RuleList → RuleContents
contents_of l = record { rules = l.rules.items; lines = map line_of_rule l.lines.items }

-- The list has the rules of the bytes, and their refused lines: the first ten, and the number of all.
pub record WasRuleListRead (grammar : Grammar) (bytes : List ℕ) (list : RuleList) : Type 0 where
  pub refusals : List (RefusalFor RuleCause)
  pub read : IsRuleList grammar bytes (contents_of list) refusals
  pub kept : AreRefused list.refused refusals
