use Rattle.std.proofs.Common.{ap, subst}
use Rattle.ipnet_base.specs.Address.{ip_address}
use Rattle.ipnet_lists.specs.Entries.{IsAddressText}
use Rattle.netset_words.proofs.MappedLaws.{ipv4_is_not_mapped, ipv6_mapped}
use Rattle.netset_words.proofs.mapped.mapped_address.Goals as goal

pub returns-in-V6 : goal.returns-in-V6
returns-in-V6 c = λ grammar text writes.
    ipv6_mapped grammar text c.in-V6.address c.unmapped.result
    (subst (λ z. IsAddressText grammar text (ip_address z)) c.in-V6.is writes) c.unmapped.ensures

pub returns-in-V4 : goal.returns-in-V4
returns-in-V4 c = λ grammar text writes.
    ipv4_is_not_mapped grammar text (ip_address c.args.address) (ap (λ z. (ip_address z).family) c.in-V4.is) writes
