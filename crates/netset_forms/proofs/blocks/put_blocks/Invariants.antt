-- The items of the ranges up to here are put, and the items of the ranges that are left are not.
use Rattle.std.proofs.Common.{length}
use Rattle.ipnet_sets.specs.Members.{IsMember}
use Rattle.ipnet_sets.specs.RangesLeft.{ranges_left}
use Rattle.netset_forms.specs.FormSteps.{layout_of}
use Rattle.netset_forms.proofs.BlockItems.{IsPutting}
use Rattle.netset_forms.proofs.blocks.put_blocks.Given as goal

abbrev pub invariant-loop-range : goal.invariant-loop-range
invariant-loop-range g l = IsPutting (layout_of l.part.frame) l.part.item l.part.min_length
    (IsMember l.part.set) (g.W.Write.contents l.fn.out) (g.W.Write.contents l.out) l.fn.piece.bytes l.piece.bytes
    l.place.none l.place.number (ranges_left l.range-iterator)

abbrev pub decreases-loop-range : goal.decreases-loop-range
decreases-loop-range g l = length (ranges_left l.range-iterator)
