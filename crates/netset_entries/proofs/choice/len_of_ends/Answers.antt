-- The smallest network around the ends decides.
use Rattle.std.proofs.Common.{refl, sym, subst}
use Rattle.ipnet_base.specs.Address.{ip_address}
use Rattle.ipnet.specs.NetworkOf.{ip_network}
use Rattle.ipnet_lists.specs.EntryOf.{entry_range}
use Rattle.netset_entries.specs.Choices.{HasPrefixLen}
use Rattle.netset_entries.proofs.ChoiceLaws.{first_is_least, last_is_greatest, length_found}
use Rattle.netset_entries.proofs.choice.len_of_ends.Goals as goal

pub returns-then-not-is_at_most-clause-none : goal.returns-then-not-is_at_most-clause-none
returns-then-not-is_at_most-clause-none c = λ len h.
    let found = first_is_least (entry_range c.args.entry) (ip_address c.ends-first.result.0)
    (ip_address c.ends-first.result.1) (ip_network c.from.result) (ip_network c.from-2.result)
    (ip_network c.in_ok-network.network) c.ends-first.ensures.first c.ends-first.ensures.last c.from.ensures
    c.from-2.ensures c.in_ok-network.ensures.some (ip_address c.network.result) c.network.ensures len h in
    let wrong = c.if-not-is_at_most.ensures.1 found in absurd cc

pub returns-then-not-is_at_most-2-clause-none : goal.returns-then-not-is_at_most-2-clause-none
returns-then-not-is_at_most-2-clause-none c = λ len h.
    let found = last_is_greatest (entry_range c.args.entry) (ip_address c.ends-first.result.0)
    (ip_address c.ends-first.result.1) (ip_network c.from.result) (ip_network c.from-2.result)
    (ip_network c.in_ok-network.network) c.ends-first.ensures.first c.ends-first.ensures.last c.from.ensures
    c.from-2.ensures c.in_ok-network.ensures.some (ip_address c.broadcast.result) c.broadcast.ensures len h in
    let wrong = c.if-not-is_at_most-2.ensures.1 found in absurd cc

pub returns-clause-some : goal.returns-clause-some
returns-clause-some c =
    let length = length_found (entry_range c.args.entry) (ip_address c.ends-first.result.0)
    (ip_address c.ends-first.result.1) (ip_network c.from.result) (ip_network c.from-2.result)
    (ip_network c.in_ok-network.network) c.ends-first.ensures.first c.ends-first.ensures.last c.from.ensures
    c.from-2.ensures c.in_ok-network.ensures.some (ip_address c.network.result) (ip_address c.broadcast.result)
    c.network.ensures c.broadcast.ensures (c.if-not-is_at_most.ensures.0 refl).1
    (c.if-not-is_at_most-2.ensures.0 refl).1 in
    subst (HasPrefixLen (entry_range c.args.entry)) (sym c.prefix_len.ensures) length
