use Rattle.ipnet_base.proofs.NetworkLaws.{truncation_from_relation}
use Rattle.ipnet.specs.NetworkOf.{ipv6_network}
use Rattle.ipnet.proofs.net.ipv6_net.Ipv6NetNet.truncated.Goals as goal

pub returns : goal.returns
returns c = truncation_from_relation (ipv6_network c.trunc.result) (ipv6_network c.args.self.now) c.trunc.ensures
