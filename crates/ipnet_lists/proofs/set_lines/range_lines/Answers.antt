use Rattle.std.proofs.Common.{string_bytes}
use Rattle.ipnet_base.specs.RangeOf.{ip_range}
use Rattle.ipnet_sets.specs.Members.{IsMember}
use Rattle.ipnet_sets.specs.RangesLeft.{ranges_left}
use Rattle.ipnet_lists.proofs.SetLineLaws.{one_written}
use Rattle.ipnet_lists.proofs.set_lines.range_lines.Goals as goal

pub loop-range-preserved : goal.loop-range-preserved
loop-range-preserved c =
    one_written (IsMember c.args.set.now) (string_bytes c.loop-range.text) (string_bytes c.push_range.new.text)
    (ranges_left c.loop-range.range-iterator) (ranges_left c.next.new.self) (ip_range c.in-Some.range)
    c.in-Some.ensures.steps c.in_ok-push_range.ensures c.loop-range.invariant
