use Rattle.std.proofs.Common.{◌≡◌, true, false, sym, ◌∙◌}
use Rattle.netset_words.proofs.place.is_destination.Goals as goal

pub returns-then-not-ends_in_colon : goal.returns-then-not-ends_in_colon
returns-then-not-ends_in_colon c = (
  λ t. absurd cc,
  λ so.
      let clash : true ≡ false =
      sym so.1 ∙ sym c.ends_in_colon.ensures ∙ c.if-not-ends_in_colon.true in
      absurd cc,
)

pub returns : goal.returns
returns c = (
  λ t. (
    c.is_same.ensures.0 t,
    sym c.ends_in_colon.ensures ∙ c.if-not-ends_in_colon.false,
  ),
  λ so. c.is_same.ensures.1 so.0,
)
