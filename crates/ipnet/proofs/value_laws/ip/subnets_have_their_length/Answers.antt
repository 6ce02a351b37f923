use Rattle.ipnet.specs.NetworkOf.{ip_network}
use Rattle.ipnet.proofs.value_laws.ip.subnets_have_their_length.Goals as goal

pub returns : goal.returns
returns c prefix_len h =
    h.members (ip_network c.args.subnet.now)
