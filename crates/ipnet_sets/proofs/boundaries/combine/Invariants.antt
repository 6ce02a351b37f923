-- The boundaries before both places are combined into what is made so far.
use Rattle.std.proofs.Common.{◌+◌, ◌-◌, ◌≤◌, All, length, map}
use Rattle.ipnet_base.specs.Address.{greatest_number}
use Rattle.ipnet_sets.proofs.BoundaryLaws.{IsCombining}
use Rattle.ipnet_sets.proofs.boundaries.combine.Given as goal

abbrev pub invariant-loop-first_at : goal.invariant-loop-first_at
invariant-loop-first_at g l = record {
  combining : IsCombining l.operation (map g.T.Number.number l.first) l.first_at
      (map g.T.Number.number l.second) l.second_at (map g.T.Number.number l.boundaries.items);
  fits : All (λ t. t ≤ greatest_number g.T.Number.family) (map g.T.Number.number l.boundaries.items);
}

abbrev pub decreases-loop-first_at : goal.decreases-loop-first_at
decreases-loop-first_at g l = (length l.first + length l.second) - (l.first_at + l.second_at)
