use Rattle.std.proofs.Common.{subst}
use Rattle.ipnet.specs.NetworkOf.{ip_network}
use Rattle.ipnet_base.specs.Address.{ip_address, ipv4_address, ipv6_address}
use Rattle.ipnet_lists.specs.EntryOf.{IsWrittenAs}
use Rattle.netset_words.proofs.KindLaws.{address_mask, network_is_no_mask, range_is_no_mask}
use Rattle.netset_words.proofs.item.is_mask_entry.Goals as goal

pub returns-in-Address : goal.returns-in-Address
returns-in-Address c = λ grammar text writes.
    address_mask grammar text (ip_address c.in-Address.address) c.is_mask.result
    (subst (IsWrittenAs grammar text) c.in-Address.is writes) c.is_mask.ensures

pub returns-in-Network : goal.returns-in-Network
returns-in-Network c = λ grammar text writes. (
  λ t. absurd cc,
  λ m. absurd (network_is_no_mask grammar text (ip_network c.in-Network.field-0)
      (subst (IsWrittenAs grammar text) c.in-Network.is writes) m),
)

pub returns-in-Ipv4Range : goal.returns-in-Ipv4Range
returns-in-Ipv4Range c = λ grammar text writes. (
  λ t. absurd cc,
  λ m. absurd (range_is_no_mask grammar text (ipv4_address c.in-Ipv4Range.field-0)
      (ipv4_address c.in-Ipv4Range.field-1) (subst (IsWrittenAs grammar text) c.in-Ipv4Range.is writes) m),
)

pub returns-in-Ipv6Range : goal.returns-in-Ipv6Range
returns-in-Ipv6Range c = λ grammar text writes. (
  λ t. absurd cc,
  λ m. absurd (range_is_no_mask grammar text (ipv6_address c.in-Ipv6Range.field-0)
      (ipv6_address c.in-Ipv6Range.field-1) (subst (IsWrittenAs grammar text) c.in-Ipv6Range.is writes) m),
)
