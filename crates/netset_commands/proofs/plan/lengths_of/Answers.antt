use Rattle.std.proofs.Common.{◌≡◌, ◌++◌, ◌∷◌, [], List, ℕ, ◌+◌, drop, refl, sym, subst, ◌∙◌}
use Rattle.netset_lib.specs.PlanAnswers.{IsLengthText}
use Rattle.netset_commands.specs.Words.{AreLengths}
use Rattle.netset_commands.proofs.WordLaws.{next_value, all_values, if_ok}
use Rattle.netset_commands.proofs.plan.lengths_of.Goals as goal

pub loop-word-preserved : goal.loop-word-preserved
loop-word-preserved c =
    let words = c.args.words.now in
    let pushed : c.push.new.self.items ≡ c.loop-word.lengths.items ++ c.in-Some.length ∷ [] =
    if_ok c.push.result c.push.new.self.items (c.loop-word.lengths.items ++ c.in-Some.length ∷ [])
    c.loop-word.lengths.items (sym c.is_err.ensures.value ∙ c.if-is_err.false) c.push.ensures.items in
    let P : List ℕ → Type 0 = λ all. (rest : List ℕ) → AreLengths (drop (c.loop-word.word-index + 1) words) rest
    → AreLengths words (all ++ rest) in
    subst P (sym pushed)
    (next_value IsLengthText words c.loop-word.word-index c.in-Some.length c.loop-word.lengths.items _
    c.loop-word-test.true ((c.in-Some.ensures c.in-Some.length).0 refl) c.loop-word.invariant)

pub returns-clause-lengths : goal.returns-clause-lengths
returns-clause-lengths c =
    all_values IsLengthText c.args.words.now c.loop-word.word-index c.loop-word.lengths.items c.loop-word-test.false
    c.loop-word.invariant
