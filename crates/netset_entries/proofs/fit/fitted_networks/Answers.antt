-- The networks of both families, one after the other.
use Rattle.std.proofs.Common.{◌++◌, map, IfSome, ap, ◌∙◌, subst}
use Rattle.std.proofs.lemmas.List.{map-append}
use Rattle.ipnet_base.specs.Address.{IPv4, IPv6}
use Rattle.ipnet.specs.NetworkOf.{ip_network}
use Rattle.ipnet_sets.specs.Members.{IsMember, IsMemberOf}
use Rattle.ipnet_shortest.specs.Covers.{AreInOrder}
use Rattle.netset_entries.specs.FittedLists.{IsFitted}
use Rattle.netset_entries.proofs.fit.fitted_networks.Goals as goal

pub returns-clause-fitted : goal.returns-clause-fitted
returns-clause-fitted c =
    let set = c.args.set.now in
    let never = c.args.never.now in
    let request = c.args.request in
    let first = c.in-Some.ipv4.items in
    let second = c.in-Some-2.ipv6.items in record {
      ipv4 = map ip_network first;
      ipv6 = map ip_network second;
      of_ipv4 = subst (λ z. IfSome z (λ list. IsFitted request.ipv4 (IsMemberOf IPv4 set) (IsMember never)
          (map ip_network list.items))) c.in-Some.is c.in_ok-ipv4.ensures.some;
      of_ipv6 = subst (λ z. IfSome z (λ list. IsFitted request.ipv6 (IsMemberOf IPv6 set) (IsMember never)
          (map ip_network list.items))) c.in-Some-2.is c.in_ok-ipv6.ensures.some;
      ipv4_in_order = subst (λ z. IfSome z (λ list. AreInOrder (map ip_network list.items))) c.in-Some.is
          c.in_ok-ipv4.ensures.order;
      ipv6_in_order = subst (λ z. IfSome z (λ list. AreInOrder (map ip_network list.items))) c.in-Some-2.is
          c.in_ok-ipv6.ensures.order;
      both = ap (map ip_network) (c.in_ok-extend_from_slice.ensures.items
          ∙ ap (λ z. first ++ z) c.as_slice.ensures.value)
          ∙ map-append ip_network first second;
    }
