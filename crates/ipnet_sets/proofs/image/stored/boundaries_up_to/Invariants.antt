use Rattle.std.proofs.Common.{◌-◌, ◌≤◌}
use Rattle.ipnet_sets.specs.Boundaries.{AreBoundaries}
use Rattle.ipnet_sets.specs.Images.{numbers_from}
use Rattle.ipnet_sets.proofs.SplitLaws.{IsSplitBetween}
use Rattle.ipnet_sets.proofs.image.stored.boundaries_up_to.Given as goal

-- the place of the number lies between, if the stored numbers are boundaries
abbrev pub invariant-loop-low : goal.invariant-loop-low
invariant-loop-low g l = record {
  ordered : l.low ≤ l.high;
  within : l.high ≤ l.place.count;
  split : AreBoundaries g.T.Number.family (numbers_from g.T.StoredNumber.width l.place.count l.bytes l.place.start)
      → IsSplitBetween (numbers_from g.T.StoredNumber.width l.place.count l.bytes l.place.start)
      (g.T.Number.number l.number) l.low l.high;
}

abbrev pub decreases-loop-low : goal.decreases-loop-low
decreases-loop-low g l = l.high - l.low
