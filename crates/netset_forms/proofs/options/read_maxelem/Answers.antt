-- The text is a `maxelem` if it is a number, and this is not 0.
use Rattle.std.proofs.Common.{◌≡◌, ◌≤◌, ◌∙◌, sym, subst, arith, Some}
use Rattle.netset_forms.proofs.options.read_maxelem.Goals as goal

pub returns-in-Some : goal.returns-in-Some
returns-in-Some c = λ n. (
  λ e.
      let same : c.in-Some.number ≡ n = cc in
      let least : 1 ≤ c.in-Some.number = omega (arith, c.if-number-gt0.true) in
      ((c.read_number.ensures n).0 (c.in-Some.is ∙ e), subst (λ z. 1 ≤ z) same least),
  λ h. sym c.in-Some.is ∙ (c.read_number.ensures n).1 h.0,
)

pub returns-in_default : goal.returns-in_default
returns-in_default c = λ n. (
  λ e. absurd cc,
  λ h.
      let is : Some c.in-Some.number ≡ Some n = sym c.in-Some.is ∙ (c.read_number.ensures n).1 h.0 in
      let same : c.in-Some.number ≡ n = cc in
      absurd (omega (arith, c.if-number-gt0.false, same, h.1)),
)

pub returns-in_default-2 : goal.returns-in_default-2
returns-in_default-2 c = λ n. (
  λ e. absurd cc,
  λ h.
      let is = sym c.in_default.is ∙ (c.read_number.ensures n).1 h.0 in
      absurd cc,
)
