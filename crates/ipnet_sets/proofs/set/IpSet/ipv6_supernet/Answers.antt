use Rattle.std.proofs.Common.{map, ap, subst}
use Rattle.std.proofs.lemmas.Bool.{true≢false}
use Rattle.ipnet_base.specs.Address.{IPv6}
use Rattle.ipnet.specs.NetworkOf.{ipv6_network, ip_network}
use Rattle.ipnet_sets.specs.Supernets.{IsSmallestAround, IsWithin}
use Rattle.ipnet_sets.proofs.AroundLaws.{around_members, none_of_family}
use Rattle.ipnet_sets.proofs.set.IpSet.ipv6_supernet.Goals as goal

pub returns-in-Some-V6-clause-some : goal.returns-in-Some-V6-clause-some
returns-in-Some-V6-clause-some c =
    around_members c.args.self.now IPv6 c.as_slice.result.now (ipv6_network c.in-Some-V6.network)
    (ap (map (λ n. n)) c.as_slice.ensures.value)
    (subst (λ z. IsSmallestAround (IsWithin IPv6 (map (λ n. n) c.as_slice.result.now)) (ip_network z))
    c.in-Some-V6.field-0-is c.in-Some-V6.ensures.some)

pub returns-in-Some-V6-clause-none : goal.returns-in-Some-V6-clause-none
returns-in-Some-V6-clause-none c = (
  λ t. absurd (true≢false t),
  λ no. c.in-Some-V6.ensures.none.1
      ((none_of_family c.args.self.now IPv6 c.as_slice.result.now (ap (map (λ n. n)) c.as_slice.ensures.value)).1 no),
)
