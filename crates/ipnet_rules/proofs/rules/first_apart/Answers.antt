-- The first address of the symmetric difference.
use Rattle.std.proofs.lemmas.Option.{IfSome_then}
use Rattle.ipnet_base.specs.Address.{ip_address}
use Rattle.ipnet_rules.proofs.FirstLaws.{first_of_same}
use Rattle.ipnet_rules.proofs.rules.first_apart.Goals as goal

pub returns-clause-some : goal.returns-clause-some
returns-clause-some c =
    IfSome_then c.first.result c.first.ensures.some
    (λ ip f. first_of_same _ _ c.in_ok-apart.ensures.members (ip_address ip) f)
