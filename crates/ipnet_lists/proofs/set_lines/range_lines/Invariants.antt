use Rattle.std.proofs.Common.{length, string_bytes}
use Rattle.ipnet_sets.specs.Members.{IsMember}
use Rattle.ipnet_sets.specs.RangesLeft.{ranges_left}
use Rattle.ipnet_lists.proofs.SetLineLaws.{AreRangesWritten}
use Rattle.ipnet_lists.proofs.set_lines.range_lines.Given as goal

abbrev pub invariant-loop-range : goal.invariant-loop-range
invariant-loop-range l =
    AreRangesWritten (IsMember l.set) (string_bytes l.text) (ranges_left l.range-iterator)

abbrev pub decreases-loop-range : goal.decreases-loop-range
decreases-loop-range l = length (ranges_left l.range-iterator)
