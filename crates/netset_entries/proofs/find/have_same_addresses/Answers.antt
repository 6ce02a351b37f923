use Rattle.std.proofs.Common.{refl}
use Rattle.netset_entries.proofs.find.have_same_addresses.Goals as goal

pub returns-then-not-is_inside : goal.returns-then-not-is_inside
returns-then-not-is_inside c = (
  λ t. absurd (let wrong = t in cc),
  λ h. c.if-not-is_inside.ensures.1 (λ x. (h x).0),
)

pub returns : goal.returns
returns c = (
  λ t x. (c.if-not-is_inside.ensures.0 refl x, c.is_inside-2.ensures.0 t x),
  λ h. c.is_inside-2.ensures.1 (λ x. (h x).1),
)
