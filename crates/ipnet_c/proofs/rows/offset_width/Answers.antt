-- The width that is returned is a width of the offsets.
use Rattle.std.proofs.Common.{refl, inl, inr, arith}
use Rattle.ipnet_c.proofs.rows.offset_width.Goals as goal

pub returns-then-size-count-clause-none : goal.returns-then-size-count-clause-none
returns-then-size-count-clause-none c = (
  λ e. absurd cc,
  λ none. absurd (none 4 (inl refl, omega (arith, c.if-size-count.true))),
)

pub returns-then-size-count-2-clause-none : goal.returns-then-size-count-2-clause-none
returns-then-size-count-2-clause-none c = (
  λ e. absurd cc,
  λ none. absurd (none 8 (inr refl, omega (arith, c.if-size-count-2.true))),
)
