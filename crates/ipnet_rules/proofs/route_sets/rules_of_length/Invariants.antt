-- The list has the rules for addresses of the prefix rules so far.
use Rattle.std.proofs.Common.{take}
use Rattle.ipnet_rules.specs.RoutesOfLength.{AreRulesOfLength}
use Rattle.ipnet_rules.proofs.route_sets.rules_of_length.Given as goal

abbrev pub invariant-loop-rule : goal.invariant-loop-rule
invariant-loop-rule l = AreRulesOfLength (take l.rule-index l.rules) l.prefix_len l.list.items
