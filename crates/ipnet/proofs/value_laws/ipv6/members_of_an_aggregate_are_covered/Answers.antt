use Rattle.std.proofs.Common.{map}
use Rattle.ipnet.proofs.ValueFacts.{aggregate_member}
use Rattle.ipnet.specs.NetworkOf.{ipv6_network}
use Rattle.ipnet.proofs.value_laws.ipv6.members_of_an_aggregate_are_covered.Goals as goal

pub returns : goal.returns
returns c =
    aggregate_member (map ipv6_network c.args.aggregate.now.items) (map ipv6_network c.args.networks.now.items)
    (ipv6_network c.args.member.now)
