-- How many addresses of a set are outside a block.
use Rattle.std.proofs.Common.{ℕ, ◌↔◌, List}
use Rattle.ipnet_base.specs.Address.{Family, IPv4, IPv6, Address}
use Rattle.ipnet_base.specs.Network.{Network}
use Rattle.ipnet_sets.specs.declared.set.IpSet.{IpSet}
use Rattle.ipnet_sets.specs.Members.{IsMember, IsMemberOf, IsCountOf}
use Rattle.ipnet_bars.specs.Outsides.{IsOutside, IsOutsideOf, IsOutsideText}
use Rattle.ipnet_bars.proofs.PartLaws.{same_count}

-- the count of the addresses outside that are stored as a set
pub outside_counted : (s outside : IpSet) (n : Network) (f : Family) (count : ℕ)
    → ((x : Address) → IsMember outside x ↔ IsOutside (IsMember s) n x) → IsCountOf (IsMemberOf f outside) count
    → IsCountOf (IsOutsideOf f (IsMember s) n) count
outside_counted s outside n f count is_outside =
    same_count (IsMemberOf f outside) (IsOutsideOf f (IsMember s) n) count
    (λ x. (λ m. (m.0, (is_outside x).0 m.1), λ i. (i.0, (is_outside x).1 i.1)))

same_outside : (A B : Address → Type 0) (n : Network) (f : Family) (count : ℕ) → ((x : Address) → A x ↔ B x)
    → IsCountOf (IsOutsideOf f A n) count → IsCountOf (IsOutsideOf f B n) count
same_outside A B n f count same = same_count (IsOutsideOf f A n) (IsOutsideOf f B n) count (λ x. (
  λ i. (i.0, record { out_of_block = i.1.out_of_block; in_set = (same x).0 i.1.in_set }),
  λ i. (i.0, record { out_of_block = i.1.out_of_block; in_set = (same x).1 i.1.in_set }),
))

-- two sets with the same addresses have the same text
pub same_outside_text : (A B : Address → Type 0) (n : Network) (sign text : List ℕ)
    → ((x : Address) → A x ↔ B x) → IsOutsideText A n sign text → IsOutsideText B n sign text
same_outside_text A B n sign text same h = record {
  ipv4 = h.ipv4;
  of_ipv4 = same_outside A B n IPv4 h.ipv4 same h.of_ipv4;
  ipv6 = h.ipv6;
  of_ipv6 = same_outside A B n IPv6 h.ipv6 same h.of_ipv6;
  spelled = h.spelled;
}
