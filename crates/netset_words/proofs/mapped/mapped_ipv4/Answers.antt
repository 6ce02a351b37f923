use Rattle.std.proofs.Common.{◌≡◌, true, false, sym, ◌∙◌, subst}
use Rattle.ipnet.specs.NetworkOf.{ip_network}
use Rattle.ipnet_base.specs.Address.{ipv4_address, ipv6_address}
use Rattle.ipnet_lists.specs.EntryOf.{IsWrittenAs}
use Rattle.netset_words.proofs.MappedLaws.{mapped_asked, network_is_not_mapped, range_is_not_mapped}
use Rattle.netset_words.proofs.mapped.mapped_ipv4.Goals as goal

pub returns-then-not-mapped : goal.returns-then-not-mapped
returns-then-not-mapped c = λ grammar text writes on.
    let clash : true ≡ false = sym on ∙ c.if-not-mapped.true in absurd cc

pub returns-in-Address : goal.returns-in-Address
returns-in-Address c = λ grammar text writes.
    mapped_asked c.args.mapped grammar text c.mapped_address.result c.if-not-mapped.false
    (c.mapped_address.ensures grammar text (subst (IsWrittenAs grammar text) c.in-Address.is writes))

pub returns-in-Network : goal.returns-in-Network
returns-in-Network c = λ grammar text writes.
    network_is_not_mapped c.args.mapped grammar text (ip_network c.in-Network.field-0)
    (subst (IsWrittenAs grammar text) c.in-Network.is writes)

pub returns-in-Ipv4Range : goal.returns-in-Ipv4Range
returns-in-Ipv4Range c = λ grammar text writes.
    range_is_not_mapped c.args.mapped grammar text (ipv4_address c.in-Ipv4Range.field-0)
    (ipv4_address c.in-Ipv4Range.field-1) (subst (IsWrittenAs grammar text) c.in-Ipv4Range.is writes)

pub returns-in-Ipv6Range : goal.returns-in-Ipv6Range
returns-in-Ipv6Range c = λ grammar text writes.
    range_is_not_mapped c.args.mapped grammar text (ipv6_address c.in-Ipv6Range.field-0)
    (ipv6_address c.in-Ipv6Range.field-1) (subst (IsWrittenAs grammar text) c.in-Ipv6Range.is writes)
