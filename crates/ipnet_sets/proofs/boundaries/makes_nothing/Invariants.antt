use Rattle.std.proofs.Common.{◌+◌, ◌-◌, length, map, []}
use Rattle.ipnet_sets.proofs.BoundaryLaws.{IsCombining}
use Rattle.ipnet_sets.proofs.boundaries.makes_nothing.Given as goal

abbrev pub invariant-loop-first_at : goal.invariant-loop-first_at
invariant-loop-first_at g l = IsCombining l.operation (map g.T.Number.number l.first) l.first_at
    (map g.T.Number.number l.second) l.second_at []

abbrev pub decreases-loop-first_at : goal.decreases-loop-first_at
decreases-loop-first_at g l = (length l.first + length l.second) - (l.first_at + l.second_at)
