use Rattle.std.proofs.Common.{sym, subst}
use Rattle.ipnet.specs.NetLaws.{ip_valid}
use Rattle.ipnet.specs.NetworkOf.{ip_network}
use Rattle.ipnet_lists.specs.Entries.{block_range}
use Rattle.ipnet_lists.specs.EntryOf.{entry_range}
use Rattle.netset_entries.specs.Choices.{HasPrefixLen}
use Rattle.netset_entries.proofs.ChoiceLaws.{own_length}
use Rattle.netset_entries.proofs.choice.prefix_len_of.Goals as goal

pub returns-in-Network-clause-some : goal.returns-in-Network-clause-some
returns-in-Network-clause-some c =
    let own = own_length (ip_network c.in-Network.network) (ip_valid c.in-Network.network) in
    subst (λ e. HasPrefixLen (entry_range e) c.prefix_len.result) (sym c.in-Network.is)
    (subst (HasPrefixLen (block_range (ip_network c.in-Network.network))) (sym c.prefix_len.ensures) own)
