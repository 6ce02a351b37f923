use Rattle.std.proofs.Common.{◌≡◌, true, false, refl, sym, ◌∙◌, inl, inr}
use Rattle.netset_words.proofs.place.may_have_host.Goals as goal

pub returns-then-is_host_name : goal.returns-then-is_host_name
returns-then-is_host_name c = (λ t. inr (sym c.is_host_name.ensures ∙ c.if-is_host_name.true), λ so. refl)

pub returns : goal.returns
returns c = (
  λ t. inl (c.is_gap.ensures.0 t),
  λ so. elim so [
    | inl gap ↦ c.is_gap.ensures.1 gap
    | inr way ↦ let clash : true ≡ false = sym way ∙ sym c.is_host_name.ensures ∙ c.if-is_host_name.false in absurd cc
  ],
)
