-- The reader's result as an option (`EntryTexts`).
use Rattle.ipnet.specs.NetworkOf.{ip_network}
use Rattle.ipnet.specs.NetworkTexts.{IsNetworkText}
use Rattle.ipnet_lists.proofs.EntryTexts.{reads_result}
use Rattle.ipnet_lists.proofs.entry.read_network.Goals as goal

pub returns : goal.returns
returns c =
    reads_result ip_network (IsNetworkText c.args.grammar) c.args.text.now c.parse_as.result c.ok.result
    c.ok.ensures.value c.parse_as.ensures
