use Rattle.std.proofs.Common.{map}
use Rattle.ipnet.proofs.ValueFacts.{aggregate_member}
use Rattle.ipnet.specs.NetworkOf.{ip_network}
use Rattle.ipnet.proofs.value_laws.ip.members_of_an_aggregate_are_covered.Goals as goal

pub returns : goal.returns
returns c =
    aggregate_member (map ip_network c.args.aggregate.now.items) (map ip_network c.args.networks.now.items)
    (ip_network c.args.member.now)
