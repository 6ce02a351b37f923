use Rattle.std.proofs.Common.{◌≡◌, true, false, refl, sym, ◌∙◌, inl, inr}
use Rattle.netset_words.proofs.place.is_packet_end.Goals as goal

pub returns-then-is_gap : goal.returns-then-is_gap
returns-then-is_gap c = (λ t. inl (c.is_gap.ensures.0 c.if-is_gap.true), λ so. refl)

pub returns : goal.returns
returns c = (
  λ t. inr (c.is_destination.ensures.0 t),
  λ so. elim so [
    | inl gap ↦ let clash : true ≡ false = sym (c.is_gap.ensures.1 gap) ∙ c.if-is_gap.false in absurd cc
    | inr end ↦ c.is_destination.ensures.1 end
  ],
)
