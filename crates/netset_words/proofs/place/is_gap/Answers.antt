use Rattle.std.proofs.Common.{◌≡◌, true, false, sym, ap, ◌∙◌, length, eq-eqb}
use Rattle.std.proofs.lemmas.Bool.{eqb-true}
use Rattle.netset_words.specs.Words.{first_gap}
use Rattle.netset_words.proofs.LogEntryLaws.{no_items}
use Rattle.netset_words.proofs.WordLaws.{gap_is_front}
use Rattle.netset_words.proofs.place.is_gap.Goals as goal

pub returns-then-not-has_front : goal.returns-then-not-has_front
returns-then-not-has_front c = (
  λ t. absurd cc,
  λ e.
      let clash : true ≡ false =
      sym (c.has_front.ensures.1 (gap_is_front c.args.bytes.now c.args.gap.now e))
      ∙ c.if-not-has_front.true in
      absurd cc,
)

pub returns-in-Some : goal.returns-in-Some
returns-in-Some c =
    let is = ap first_gap c.in-Some.ensures.words in
    (λ t. is ∙ c.is_same.ensures.0 t, λ e. c.is_same.ensures.1 (sym is ∙ e))

pub returns-in-None : goal.returns-in-None
returns-in-None c =
    let none = ap first_gap c.in-None.ensures.none in (
      λ t. none ∙ sym (no_items c.args.gap.now (eqb-true _ 0 (sym c.is_empty.ensures ∙ t))),
      λ e. c.is_empty.ensures ∙ eq-eqb (length c.args.gap.now) 0 (ap length (sym e ∙ none)),
    )
