use Rattle.std.proofs.Common.{subst}
use Rattle.ipnet_base.specs.Address.{ip_address}
use Rattle.ipnet.specs.NetLaws.{ip_valid}
use Rattle.ipnet.specs.NetworkOf.{ip_network}
use Rattle.ipnet_lists.specs.EntryOf.{IsWrittenAs}
use Rattle.netset_lib.proofs.NetworkEntryLaws.{network_word, address_word}
use Rattle.netset_lib.proofs.network_entry.network_of.Goals as goal

pub returns-in-Network-clause-network : goal.returns-in-Network-clause-network
returns-in-Network-clause-network c = λ grammar text written.
    network_word grammar text (ip_network c.trunc.result) (ip_network c.in-Network.network) c.trunc.ensures
    (subst (IsWrittenAs grammar text) c.in-Network.is written)

pub returns-in-Address-clause-network : goal.returns-in-Address-clause-network
returns-in-Address-clause-network c = λ grammar text written.
    address_word grammar text (ip_address c.in-Address.address) (ip_network c.from.result) (ip_valid c.from.result)
    c.from.ensures (subst (IsWrittenAs grammar text) c.in-Address.is written)
