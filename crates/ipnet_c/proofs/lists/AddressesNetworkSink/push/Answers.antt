use Rattle.ipnet.specs.NetworkOf.{ip_network}
use Rattle.ipnet_text.proofs.ListsLaws.{OnOk_then}
use Rattle.ipnet_c.proofs.TakenLaws.{one_taken}
use Rattle.ipnet_c.proofs.lists.AddressesNetworkSink.push.Goals as goal

pub returns : goal.returns
returns c =
    OnOk_then c.push_network.result c.push_network.ensures.added
    (λ added networks. one_taken c.args.self.now.builder c.push_network.new.self networks (ip_network c.args.network)
    added)
