use Rattle.std.proofs.Common.{◌≡◌, false, get_or, sym, ◌∙◌, below_more}
use Rattle.netset_words.specs.Words.{cuts}
use Rattle.netset_words.proofs.word.word_len.Goals as goal

pub loop-index-preserved : goal.loop-index-preserved
loop-index-preserved c =
    below_more (λ k. cuts (get_or c.args.bytes.now k 0) ≡ false) _ c.loop-index.invariant
    (sym c.is_cut.ensures ∙ c.if-is_cut.false)
