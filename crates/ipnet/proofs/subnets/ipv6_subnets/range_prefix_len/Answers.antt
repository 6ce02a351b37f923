-- If all bits of the distance are ones, it fills its block to the end; otherwise the last bit is left out
-- (`most_bits_all_ones`, `most_bits_some_zero`).
use Rattle.std.proofs.Common.{◌+◌, ◌∙◌, ap, arith}
use Rattle.std.specs.Int.{w128, leading_zeros}
use Rattle.std.specs.Int.Count.{trailing_of_zero}
use Rattle.ipnet_base.proofs.StepLaws.{most_bits_all_ones, most_bits_some_zero}
use Rattle.ipnet.proofs.subnets.ipv6_subnets.range_prefix_len.Goals as goal

pub returns-then-zeros-trailing_ones-eq-BITS-clause-most : goal.returns-then-zeros-trailing_ones-eq-BITS-clause-most
returns-then-zeros-trailing_ones-eq-BITS-clause-most c =
    most_bits_all_ones w128 c.args.distance c.ranges.distance.fits
    (omega (arith, c.if-zeros-trailing_ones-eq-BITS.true, c.trailing_ones.ensures))

pub returns-else-zeros-trailing_ones-eq-BITS-clause-fits : goal.returns-else-zeros-trailing_ones-eq-BITS-clause-fits
returns-else-zeros-trailing_ones-eq-BITS-clause-fits c =
    omega (
      arith,
      (most_bits_some_zero w128 c.args.distance c.ranges.distance.fits (trailing_of_zero 128)
          (λ e. c.if-zeros-trailing_ones-eq-BITS.false
          (ap (λ t. leading_zeros w128 c.args.distance + t) c.trailing_ones.ensures ∙ e))).0,
    )

pub returns-else-zeros-trailing_ones-eq-BITS-clause-most : goal.returns-else-zeros-trailing_ones-eq-BITS-clause-most
returns-else-zeros-trailing_ones-eq-BITS-clause-most c =
    (most_bits_some_zero w128 c.args.distance c.ranges.distance.fits (trailing_of_zero 128)
    (λ e. c.if-zeros-trailing_ones-eq-BITS.false
    (ap (λ t. leading_zeros w128 c.args.distance + t) c.trailing_ones.ensures ∙ e))).1
