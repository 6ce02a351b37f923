use Rattle.std.proofs.lemmas.List.Filters.{dedup_is}
use Rattle.ipnet_fewest.proofs.ListedLaws.{has_kept, values_sorted}
use Rattle.ipnet_fewest.proofs.numbers.drop_repeated.Goals as goal

pub returns-clause-sorted : goal.returns-clause-sorted
returns-clause-sorted g c =
    let eq = g.V.PartialEq.eq in
    values_sorted g.V.Ord.cmp g.met.V.Ord.total eq g.met.V.Eq.laws g.met.V.Ord.matches_eq
    c.sort_unstable.new.self.items c.dedup.new.self.items c.sort_unstable.ensures.sorted
    (dedup_is eq c.sort_unstable.new.self.items c.dedup.new.self.items c.dedup.ensures.filtered)

pub returns-clause-kept : goal.returns-clause-kept
returns-clause-kept g c =
    let eq = g.V.PartialEq.eq in
    has_kept g.V.Ord.cmp g.met.V.Ord.total eq g.met.V.Eq.laws g.met.V.Ord.matches_eq c.args.values.now.items
    c.sort_unstable.new.self.items c.dedup.new.self.items c.sort_unstable.ensures.permutation
    (dedup_is eq c.sort_unstable.new.self.items c.dedup.new.self.items c.dedup.ensures.filtered)
