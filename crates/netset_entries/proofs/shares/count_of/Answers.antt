-- The addresses of IPv6 are those of the entry's family.
use Rattle.std.proofs.Common.{◌≡◌, ◌∙◌, ap, subst, sym}
use Rattle.ipnet_base.specs.Address.{IPv6, ip_address}
use Rattle.ipnet_bars.proofs.PartLaws.{ipv6_counted}
use Rattle.ipnet_bars.specs.Parts.{counted}
use Rattle.ipnet_lists.specs.EntryOf.{entry_range}
use Rattle.ipnet_sets.specs.Members.{IsCountOf, IsMemberOf}
use Rattle.netset_entries.proofs.shares.count_of.Goals as goal

pub returns-in-V6-default : goal.returns-in-V6-default
returns-in-V6-default c =
    let set = c.args.set.now in
    let is : (entry_range c.args.entry).family ≡ IPv6
    = sym (ap (λ a. a.family) c.ends.ensures.first) ∙ ap (λ i. (ip_address i).family) c.in-V6-default.is-0 in
    subst (λ f. IsCountOf (IsMemberOf f set) (counted c.ipv6_count.result)) (sym is)
    (ipv6_counted set c.ipv6_count.result c.ipv6_count.ensures.none c.ipv6_count.ensures.some)
