use Rattle.ipnet.specs.NetworkOf.{ipv6_network}
use Rattle.ipnet.proofs.value_laws.ipv6.subnets_have_their_length.Goals as goal

pub returns : goal.returns
returns c prefix_len h =
    h.members (ipv6_network c.args.subnet.now)
