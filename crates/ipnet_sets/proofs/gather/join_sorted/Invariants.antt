-- After i ranges their numbers are in the set.
use Rattle.std.proofs.Common.{map}
use Rattle.ipnet_sets.proofs.JoinLaws.{IsGathered}
use Rattle.ipnet_sets.proofs.gather.join_sorted.Given as goal

abbrev pub invariant-loop-range : goal.invariant-loop-range
invariant-loop-range g l =
    IsGathered (λ r. g.T.Number.number r.first) (λ r. g.T.Number.number r.last) g.T.Number.family l.ranges l.range-index
    (map g.T.Number.number l.boundaries.items)
