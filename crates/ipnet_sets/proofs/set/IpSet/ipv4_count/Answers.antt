-- The ranges of IPv4 have at most 2^32 addresses together, so their count fits its word.
use Rattle.std.proofs.Common.{map, sym, ap, subst, arith}
use Rattle.ipnet_base.specs.Address.{IPv4}
use Rattle.ipnet_sets.specs.Boundaries.{AreBoundaries}
use Rattle.ipnet_sets.specs.Members.{IsMemberOf, IsCountOf}
use Rattle.ipnet_sets.proofs.CountLaws.{count_fits, count_of_family}
use Rattle.ipnet_sets.proofs.set.IpSet.ipv4_count.Goals as goal

pub count-requires-clause-fits : goal.count-requires-clause-fits
count-requires-clause-fits c =
    omega (
      arith,
      count_fits IPv4 (map (λ n. n) c.as_slice.result.now)
          (subst (λ z. AreBoundaries IPv4 (map (λ n. n) z)) (sym c.as_slice.ensures.value)
          c.args.self.now.ipv4_boundaries),
    )

pub overflow_cast-result : goal.overflow_cast-result
overflow_cast-result c =
    omega (
      arith,
      c.count.ensures,
      count_fits IPv4 (map (λ n. n) c.as_slice.result.now)
          (subst (λ z. AreBoundaries IPv4 (map (λ n. n) z)) (sym c.as_slice.ensures.value)
          c.args.self.now.ipv4_boundaries),
    )

pub returns : goal.returns
returns c =
    subst (IsCountOf (IsMemberOf IPv4 c.args.self.now)) (sym c.count.ensures)
    (count_of_family c.args.self.now IPv4 (map (λ n. n) c.as_slice.result.now)
    (ap (map (λ n. n)) (sym c.as_slice.ensures.value))
    (subst (λ z. AreBoundaries IPv4 (map (λ n. n) z)) (sym c.as_slice.ensures.value) c.args.self.now.ipv4_boundaries))
