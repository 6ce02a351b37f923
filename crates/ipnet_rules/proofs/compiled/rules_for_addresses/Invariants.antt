-- Each prefix rule so far has a rule for addresses.
use Rattle.std.proofs.Common.{take}
use Rattle.ipnet_rules.specs.CompiledLists.{AreRulesForAddresses}
use Rattle.ipnet_rules.proofs.compiled.rules_for_addresses.Given as goal

abbrev pub invariant-loop-rule : goal.invariant-loop-rule
invariant-loop-rule l = AreRulesForAddresses (take l.rule-index l.rules) l.list.items
