use Rattle.std.proofs.Common.{◌≡◌, ◌-◌, false, get_or, sym, ◌∙◌, subst, arith, inl, inr}
use Rattle.std.proofs.lemmas.Bool.{cases_lt}
use Rattle.netset_words.specs.Words.{cuts}
use Rattle.netset_words.proofs.LogBytes.{whole_front}
use Rattle.netset_words.proofs.line_filter.whole_len.Goals as goal

pub returns-else-not-is_cut : goal.returns-else-not-is_cut
returns-else-not-is_cut c =
    whole_front c.args.front.now c.loop-end.end c.loop-end.invariant.within c.loop-end.invariant.letters
    (λ some. sym c.is_cut.ensures ∙ c.if-not-is_cut.false)

pub returns-after-loop-end : goal.returns-after-loop-end
returns-after-loop-end c =
    whole_front c.args.front.now c.loop-end.end c.loop-end.invariant.within c.loop-end.invariant.letters
    (λ some. absurd (omega (arith, some, c.loop-end-test.false)))

pub loop-end-preserved : goal.loop-end-preserved
loop-end-preserved c = record {
  within = omega (arith, c.loop-end.invariant.within);
  letters = λ k low high. elim (cases_lt k c.loop-end.end) [
    | inl less ↦
        let is : c.loop-end.end - 1 ≡ k = omega (arith, low, less) in
        subst (λ i. cuts (get_or c.args.front.now i 0) ≡ false) is (sym c.is_cut.ensures ∙ c.if-not-is_cut.true)
    | inr more ↦ c.loop-end.invariant.letters k more high
  ];
}
