-- The rows before the index are the ends of the ranges so far.
use Rattle.std.proofs.Common.{length}
use Rattle.ipnet_sets.specs.RangesLeft.{ranges_left}
use Rattle.ipnet_c.proofs.ImageRowReplies.{AreRangesTo}
use Rattle.ipnet_c.proofs.image_rows.write_ranges.Given as goal

abbrev pub invariant-loop-range : goal.invariant-loop-range
invariant-loop-range l =
    AreRangesTo (ranges_left l.fn.ranges) (ranges_left l.range-iterator) l.index l.fn.families l.fn.octets l.families
    l.octets

abbrev pub decreases-loop-range : goal.decreases-loop-range
decreases-loop-range l = length (ranges_left l.range-iterator)
