-- The three lengths, by the range, by the start's trailing zeros and by the minimum, meet all that
-- `largest_by_counts` requires.
use Rattle.std.proofs.Common.{refl, arith}
use Rattle.std.specs.Int.{w128}
use Rattle.std.specs.Int.Count.{trailing_of_zero}
use Rattle.std.proofs.lemmas.Nat.{trailing_le}
use Rattle.ipnet_base.specs.Address.{IPv6}
use Rattle.ipnet_base.proofs.StepLaws.{largest_by_counts}
use Rattle.ipnet.proofs.subnets.ipv6_subnets.largest_prefix_len.Goals as goal

pub returns-clause-largest : goal.returns-clause-largest
returns-clause-largest c =
    largest_by_counts IPv6 w128 refl (trailing_of_zero 128) c.args.start c.args.end c.args.min_prefix_len
    c.range_prefix_len-by_range.result c.max-2.result c.requires.ordered c.ranges.start.fits c.ranges.end.fits
    c.requires.prefix_fits c.range_prefix_len-by_range.ensures.fits (trailing_le 128 c.args.start)
    c.range_prefix_len-by_range.ensures.most (omega (arith, c.max.ensures, c.max-2.ensures))
