use Rattle.std.proofs.Common.{map, sym, ap, subst}
use Rattle.ipnet_base.specs.Address.{IPv4, IPv6}
use Rattle.ipnet_sets.specs.Boundaries.{AreBoundaries}
use Rattle.ipnet_sets.proofs.SetRangeLaws.{ranges_of_set}
use Rattle.ipnet_sets.specs.Members.{IsMember}
use Rattle.ipnet_sets.proofs.FewestRanges.{fewest_ranges}
use Rattle.ipnet_sets.proofs.set.IpSet.ranges.Goals as goal

pub returns-clause-ranges : goal.returns-clause-ranges
returns-clause-ranges c =
    ranges_of_set c.args.self.now (map (λ n. n) c.as_slice.result.now) (map (λ n. n) c.as_slice-2.result.now)
    (ap (map (λ n. n)) (sym c.as_slice.ensures.value)) (ap (map (λ n. n)) (sym c.as_slice-2.ensures.value))
    (subst (λ z. AreBoundaries IPv4 (map (λ n. n) z)) (sym c.as_slice.ensures.value) c.args.self.now.ipv4_boundaries)
    (subst (λ z. AreBoundaries IPv6 (map (λ n. n) z)) (sym c.as_slice-2.ensures.value) c.args.self.now.ipv6_boundaries)

pub returns-clause-fewest : goal.returns-clause-fewest
returns-clause-fewest c = fewest_ranges (IsMember c.args.self.now) _ (returns-clause-ranges c)
