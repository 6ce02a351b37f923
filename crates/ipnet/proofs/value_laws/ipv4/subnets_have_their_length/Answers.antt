use Rattle.ipnet.specs.NetworkOf.{ipv4_network}
use Rattle.ipnet.proofs.value_laws.ipv4.subnets_have_their_length.Goals as goal

pub returns : goal.returns
returns c prefix_len h =
    h.members (ipv4_network c.args.subnet.now)
