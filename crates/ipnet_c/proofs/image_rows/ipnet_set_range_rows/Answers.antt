-- The rows are the ends of the ranges of the set of the image.
use Rattle.std.proofs.Common.{subst, arith}
use Rattle.ipnet_sets.specs.Images.{IsImage, IsImageOf}
use Rattle.ipnet_sets.specs.RangesLeft.{ranges_left}
use Rattle.ipnet_c.specs.ImageRows.{IsRangeCount}
use Rattle.ipnet_c.proofs.ImageRowReplies.{ranges_written, ranges_short}
use Rattle.ipnet_c.proofs.image_rows.ipnet_set_range_rows.Goals as goal

pub returns-then-families-count : goal.returns-then-families-count
returns-then-families-count c =
    let same = c.in-Ok.ensures in
    let set = c.in-Ok-to_set.set in
    let made : IsRangeCount c.args.set.now c.len.result = record {
      first = set;
      first_image = subst (λ z. IsImageOf z set) same c.in-Ok-to_set.ensures;
      ranges = ranges_left c.ranges-ranges.result;
      are = c.ranges-ranges.ensures.ranges;
      fewest = c.ranges-ranges.ensures.fewest;
      counted = c.len.ensures.value;
    } in
    ranges_short c.args.set.now c.args.families.now c.args.octets.now c.args.count.now c.len.result
    (c.are_rows.ensures.0 c.if-not-are_rows.false) (subst IsImage same c.in-Ok.image.image_of_a_set) made
    (omega (arith, c.if-families-count.true))

pub returns : goal.returns
returns c =
    let same = c.in-Ok.ensures in
    let set = c.in-Ok-to_set.set in
    let made : IsRangeCount c.args.set.now c.len.result = record {
      first = set;
      first_image = subst (λ z. IsImageOf z set) same c.in-Ok-to_set.ensures;
      ranges = ranges_left c.ranges-ranges.result;
      are = c.ranges-ranges.ensures.ranges;
      fewest = c.ranges-ranges.ensures.fewest;
      counted = c.len.ensures.value;
    } in
    ranges_written c.args.set.now c.args.families.now c.args.octets.now c.write_ranges.new.families
    c.write_ranges.new.octets c.args.count.now c.len.result (c.are_rows.ensures.0 c.if-not-are_rows.false)
    (subst IsImage same c.in-Ok.image.image_of_a_set) made c.write_ranges.ensures
