-- The lowest bit that a shift leaves is the longest of the lengths.
use Rattle.std.proofs.Common.{◌-◌, ◌^◌, arith}
use Rattle.std.proofs.Math.Nat.{div-le_self}
use Rattle.ipnet_routes.proofs.KnownLengthLaws.{none_short, longest_short}
use Rattle.ipnet_routes.proofs.route_map.lengths.longest_of.Goals as goal

pub returns-then-short-eq0-clause-none : goal.returns-then-short-eq0-clause-none
returns-then-short-eq0-clause-none c l has le =
    none_short c.args.mask c.args.limit l c.requires c.if-short-eq0.true has le

pub returns-clause-some : goal.returns-clause-some
returns-clause-some c = (
  omega (arith, c.saturating_sub.ensures),
  λ l has le. omega (
    arith,
    c.saturating_sub.ensures,
    longest_short c.args.mask c.args.limit l c.requires (omega (arith, c.if-short-eq0.false))
        (omega (arith, c.ranges.mask.fits, div-le_self c.args.mask (2 ^ (127 - c.args.limit)))) has le,
  ),
)
