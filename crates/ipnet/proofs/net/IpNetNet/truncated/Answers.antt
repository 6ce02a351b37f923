use Rattle.ipnet_base.proofs.NetworkLaws.{truncation_from_relation}
use Rattle.ipnet.specs.NetworkOf.{ip_network}
use Rattle.ipnet.proofs.net.IpNetNet.truncated.Goals as goal

pub returns : goal.returns
returns c = truncation_from_relation (ip_network c.trunc.result) (ip_network c.args.self.now) c.trunc.ensures
