-- The count so far and the counts of the ranges that are left add up to the count of all ranges.
use Rattle.std.proofs.Common.{◌≡◌, ◌+◌, map, length}
use Rattle.ipnet_sets.specs.Boundaries.{AreBoundaries}
use Rattle.ipnet_sets.specs.BoundaryRanges.{ranges_of, count_of}
use Rattle.ipnet_sets.proofs.boundaries.count.Given as goal

abbrev pub invariant-loop-range : goal.invariant-loop-range
invariant-loop-range g l = record {
  boundaries : AreBoundaries g.T.Number.family (map g.T.Number.number l.left);
  counted : l.total + count_of (ranges_of g.T.Number.family (map g.T.Number.number l.left))
      ≡ count_of (ranges_of g.T.Number.family (map g.T.Number.number l.boundaries));
}

abbrev pub decreases-loop-range : goal.decreases-loop-range
decreases-loop-range g l = length l.left
