-- No rule so far matches the network, so the verdict of the whole list is the verdict of the remaining rules.
use Rattle.std.proofs.Common.{drop}
use Rattle.ipnet.specs.NetworkOf.{ip_network}
use Rattle.ipnet_rules.specs.declared.rules.Action.{Action}
use Rattle.ipnet_rules.specs.PrefixLists.{IsRouteVerdict}
use Rattle.ipnet_rules.proofs.prefix_list.PrefixList.verdict.Given as goal

abbrev pub invariant-loop-rule : goal.invariant-loop-rule
invariant-loop-rule l = (verdict : Action)
    → IsRouteVerdict (drop l.rule-index l.self.list.items) (ip_network l.network) verdict
    → IsRouteVerdict l.self.list.items (ip_network l.network) verdict
