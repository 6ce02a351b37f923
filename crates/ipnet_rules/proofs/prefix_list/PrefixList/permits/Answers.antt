-- A network has one verdict.
use Rattle.ipnet.specs.NetworkOf.{ip_network}
use Rattle.ipnet_rules.specs.declared.rules.Action.TheVariants.{Permit, Deny}
use Rattle.ipnet_rules.specs.PrefixLists.{MatchesRoute}
use Rattle.ipnet_rules.proofs.VerdictLaws.{one_verdict, not_both}
use Rattle.ipnet_rules.proofs.prefix_list.PrefixList.permits.Goals as goal

pub returns-in-Deny : goal.returns-in-Deny
returns-in-Deny c = (
  λ no. absurd (cc),
  λ permitted. absurd (not_both (one_verdict MatchesRoute (λ r. r.action) Deny c.args.self.now.list.items
      (ip_network c.args.network.now) Permit Deny permitted c.in-Deny.ensures)),
)
