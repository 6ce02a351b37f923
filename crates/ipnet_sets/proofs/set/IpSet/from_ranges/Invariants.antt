-- After i boundaries the builder has the addresses of the first i of the list.
use Rattle.std.proofs.Common.{map}
use Rattle.ipnet_base.specs.RangeOf.{ip_range}
use Rattle.ipnet_sets.specs.SetRanges.{IsInRange}
use Rattle.ipnet_sets.specs.Pushed.{IsPushed}
use Rattle.ipnet_sets.proofs.ManyLaws.{HasFirst}
use Rattle.ipnet_sets.proofs.set.IpSet.from_ranges.Given as goal

abbrev pub invariant-loop-range : goal.invariant-loop-range
invariant-loop-range l = HasFirst IsInRange (map ip_range l.ranges) l.range-index (IsPushed l.builder)
