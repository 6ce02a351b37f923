use Rattle.ipnet_base.proofs.NetworkLaws.{truncation_from_relation}
use Rattle.ipnet.specs.NetworkOf.{ipv4_network}
use Rattle.ipnet.proofs.net.ipv4_net.Ipv4NetNet.truncated.Goals as goal

pub returns : goal.returns
returns c = truncation_from_relation (ipv4_network c.trunc.result) (ipv4_network c.args.self.now) c.trunc.ensures
