-- A network that is not permitted is denied.
use Rattle.ipnet.specs.NetLaws.{ip_valid}
use Rattle.ipnet.specs.NetworkOf.{ip_network}
use Rattle.ipnet_rules.specs.CompiledListOf.{rules_of}
use Rattle.ipnet_rules.proofs.MatchLaws.{denied_otherwise}
use Rattle.ipnet_rules.proofs.compiled.CompiledPrefixList.verdict.Goals as goal

pub returns-else-permits : goal.returns-else-permits
returns-else-permits c =
    denied_otherwise (rules_of c.args.self.now) (ip_network c.args.network.now) (ip_valid c.args.network.now)
    (λ p. let is = c.permits.ensures.1 p in let not_so = c.if-permits.false in absurd (cc))
