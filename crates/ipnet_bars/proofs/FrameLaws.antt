-- The smallest network around a part, from the smallest around the members of its family.
use Rattle.std.proofs.Common.{◌↔◌, Option, Some, None, IfSome}
use Rattle.ipnet_base.specs.Address.{Address}
use Rattle.ipnet_base.specs.Network.{Network}
use Rattle.ipnet.specs.declared.net.IpNet.{IpNet}
use Rattle.ipnet.specs.NetworkOf.{ip_network}
use Rattle.ipnet_sets.specs.declared.set.IpSet.{IpSet}
use Rattle.ipnet_sets.specs.Members.{IsMember, IsMemberOf, HasFamily}
use Rattle.ipnet_sets.specs.Supernets.{IsSmallestAround}
use Rattle.ipnet_sets.specs.Parts.{IsInPart}
use Rattle.ipnet_bars.specs.Parts.{HasNone}

-- all addresses of a part are of the network's family
of_family : (A : Address → Type 0) (n : Network) (s : IpSet) → ((x : Address) → IsMember s x ↔ IsInPart A n x)
    → (x : Address) → IsMemberOf n.family s x ↔ IsInPart A n x
of_family A n s part x = (λ m. (part x).0 m.1, λ i. (i.in_block.same_family, (part x).1 i))

pub around_part : (A : Address → Type 0) (n : Network) (s : IpSet) → ((x : Address) → IsMember s x ↔ IsInPart A n x)
    → (found : Option IpNet) → IfSome found (λ frame. IsSmallestAround (IsMemberOf n.family s) (ip_network frame))
    → IfSome found (λ frame. IsSmallestAround (IsInPart A n) (ip_network frame))
around_part A n s part None h = h
around_part A n s part (Some frame) h = record {
  network = h.network;
  truncated = h.truncated;
  holds = λ x i. h.holds x ((of_family A n s part x).1 i);
  smallest = λ k u all. h.smallest k u (λ x m. all x ((of_family A n s part x).0 m));
}

pub none_of_part : (A : Address → Type 0) (n : Network) (s : IpSet) → ((x : Address) → IsMember s x ↔ IsInPart A n x)
    → (¬ (HasFamily n.family s)) ↔ HasNone A n
none_of_part A n s part = (
  λ no x b a. no (x, (of_family A n s part x).1 (record { in_block = b; in_set = a })),
  λ none m. let i = (of_family A n s part m.0).0 m.1 in none m.0 i.in_block i.in_set,
)
