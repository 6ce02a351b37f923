-- The ranges of IPv6 have 2^128 addresses if and only if the set is whole; any other count fits the word.
use Rattle.std.proofs.Common.{map, sym, ap, refl, subst}
use Rattle.ipnet_base.specs.Address.{IPv6}
use Rattle.ipnet_base.proofs.ResultLaws.{true_gives, false_gives}
use Rattle.ipnet_sets.specs.Boundaries.{AreBoundaries}
use Rattle.ipnet_sets.specs.Members.{IsMemberOf, IsCountOf}
use Rattle.ipnet_sets.proofs.CountLaws.{count_of_family, all_of_family, not_whole_fits}
use Rattle.ipnet_sets.proofs.set.IpSet.ipv6_count.Goals as goal

pub returns-then-is_whole-clause-none : goal.returns-then-is_whole-clause-none
returns-then-is_whole-clause-none c = (
  λ t. (all_of_family c.args.self.now IPv6 (map (λ n. n) c.as_slice.result.now)
      (ap (map (λ n. n)) (sym c.as_slice.ensures.value))
      (subst (λ z. AreBoundaries IPv6 (map (λ n. n) z)) (sym c.as_slice.ensures.value)
      c.args.self.now.ipv6_boundaries)).0
      (true_gives c.is_whole.result c.is_whole.ensures c.if-is_whole.true),
  λ all. refl,
)

pub count-requires-clause-fits : goal.count-requires-clause-fits
count-requires-clause-fits c =
    not_whole_fits c.args.self.now.ipv6.items c.as_slice.result.now c.as_slice-2.result.now c.as_slice.ensures.value
    c.as_slice-2.ensures.value c.args.self.now.ipv6_boundaries
    (false_gives c.is_whole.result c.is_whole.ensures c.if-is_whole.false)

pub returns-clause-none : goal.returns-clause-none
returns-clause-none c = (
  λ t. cc,
  λ all. absurd (false_gives c.is_whole.result c.is_whole.ensures c.if-is_whole.false
      ((all_of_family c.args.self.now IPv6 (map (λ n. n) c.as_slice.result.now)
      (ap (map (λ n. n)) (sym c.as_slice.ensures.value))
      (subst (λ z. AreBoundaries IPv6 (map (λ n. n) z)) (sym c.as_slice.ensures.value)
      c.args.self.now.ipv6_boundaries)).1 all)),
)

pub returns-clause-some : goal.returns-clause-some
returns-clause-some c =
    subst (IsCountOf (IsMemberOf IPv6 c.args.self.now)) (sym c.count.ensures)
    (count_of_family c.args.self.now IPv6 (map (λ n. n) c.as_slice-2.result.now)
    (ap (map (λ n. n)) (sym c.as_slice-2.ensures.value))
    (subst (λ z. AreBoundaries IPv6 (map (λ n. n) z)) (sym c.as_slice-2.ensures.value) c.args.self.now.ipv6_boundaries))
