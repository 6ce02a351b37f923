-- No rule so far matches the address, so the verdict of the whole list is the verdict of the remaining rules.
use Rattle.std.proofs.Common.{drop}
use Rattle.ipnet_base.specs.Address.{ip_address}
use Rattle.ipnet_rules.specs.declared.rules.Action.{Action}
use Rattle.ipnet_rules.specs.Rules.{HasRuleVerdict}
use Rattle.ipnet_rules.proofs.rules.Rules.verdict.Given as goal

abbrev pub invariant-loop-rule : goal.invariant-loop-rule
invariant-loop-rule l = (verdict : Action)
    → HasRuleVerdict (drop l.rule-index l.self.list.items) l.self.default (ip_address l.ip) verdict
    → HasRuleVerdict l.self.list.items l.self.default (ip_address l.ip) verdict
