-- The ranges up to here are put, and the ranges that are left are not.
use Rattle.std.proofs.Common.{length}
use Rattle.ipnet_sets.specs.Members.{IsMember}
use Rattle.ipnet_sets.specs.RangesLeft.{ranges_left}
use Rattle.netset_forms.specs.FormSteps.{layout_of}
use Rattle.netset_forms.proofs.RangeItems.{IsPuttingRanges}
use Rattle.netset_forms.proofs.blocks.put_ranges.Given as goal

abbrev pub invariant-loop-range : goal.invariant-loop-range
invariant-loop-range g l = IsPuttingRanges (layout_of l.part.frame) (IsMember l.part.set)
    (g.W.Write.contents l.fn.out) (g.W.Write.contents l.out) l.fn.piece.bytes l.piece.bytes l.none
    (ranges_left l.range-iterator)

abbrev pub decreases-loop-range : goal.decreases-loop-range
decreases-loop-range g l = length (ranges_left l.range-iterator)
