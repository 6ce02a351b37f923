-- Each turn writes the two rows of the first range that is left.
use Rattle.ipnet_base.specs.RangeOf.{ip_range}
use Rattle.ipnet_sets.specs.RangesLeft.{ranges_left}
use Rattle.ipnet_sets.proofs.NetworkListLaws.{first_range_valid}
use Rattle.ipnet_c.proofs.ImageRowReplies.{one_range, all_ranges}
use Rattle.ipnet_c.proofs.image_rows.write_ranges.Goals as goal

pub write_ends-requires-clause-some : goal.write_ends-requires-clause-some
write_ends-requires-clause-some c =
    (first_range_valid c.loop-range.range-iterator (ip_range c.in-Some.range) (ranges_left c.next.new.self)
    c.in-Some.ensures.steps).0

pub loop-range-preserved : goal.loop-range-preserved
loop-range-preserved c =
    let l = c.loop-range in
    let new = c.write_ends.new in
    one_range (ranges_left c.args.ranges) (ranges_left l.range-iterator) (ranges_left c.next.new.self)
    (ip_range c.in-Some.range) l.index c.args.families.now c.args.octets.now l.families l.octets new.families
    new.octets c.in-Some.ensures.steps l.invariant c.write_ends.ensures.as_many c.write_ends.ensures.as_long
    c.write_ends.ensures.ends c.write_ends.ensures.others c.write_ends.ensures.other_octets

pub returns : goal.returns
returns c =
    let l = c.loop-range in
    all_ranges (ranges_left c.args.ranges) (ranges_left l.range-iterator) l.index c.args.families.now
    c.args.octets.now l.families l.octets c.in-None.ensures.steps.0 l.invariant
