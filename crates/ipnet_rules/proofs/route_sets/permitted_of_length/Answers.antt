-- The rules match each network that they permit.
use Rattle.std.proofs.Common.{Any, subst}
use Rattle.ipnet_rules.specs.Rules.{Matches}
use Rattle.ipnet_rules.proofs.VerdictLaws.{permit_matched}
use Rattle.ipnet_rules.proofs.route_sets.permitted_of_length.Goals as goal

pub returns-clause-fits : goal.returns-clause-fits
returns-clause-fits c x m =
    c.in_ok-list.ensures.fits x (subst (λ rs. Any (λ r. Matches r x) rs) c.as_slice.ensures.value
    (permit_matched Matches (λ r. r.action) c.as_slice.result.now x ((c.in_ok-compiled.ensures.permitted x).0 m)))
