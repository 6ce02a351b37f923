use Rattle.ipnet_base.proofs.NestingLaws as nesting
use Rattle.ipnet.proofs.ValueFacts.{overlap_iff_nested}
use Rattle.ipnet.specs.NetworkOf.{ip_network}
use Rattle.ipnet.proofs.value_laws.ip.nested_or_disjoint.Goals as goal

pub returns-clause-cases : goal.returns-clause-cases
returns-clause-cases c =
    nesting.nested_or_disjoint (ip_network c.args.net.now) (ip_network c.args.other.now)

pub returns-clause-overlap : goal.returns-clause-overlap
returns-clause-overlap c =
    overlap_iff_nested (ip_network c.args.net.now) (ip_network c.args.other.now)
