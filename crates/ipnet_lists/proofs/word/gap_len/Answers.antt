use Rattle.std.proofs.Common.{length, sym, ◌∙◌, arith}
use Rattle.ipnet_lists.proofs.CommentLaws.{gap_ends}
use Rattle.ipnet_lists.proofs.word.gap_len.Goals as goal

pub returns-then-not-is_word_end-clause-gap : goal.returns-then-not-is_word_end-clause-gap
returns-then-not-is_word_end-clause-gap c =
    gap_ends c.args.bytes.now c.loop-index.index (omega (arith, c.loop-index-test.true)) c.loop-index.invariant
    (λ less. sym c.is_word_end.ensures ∙ c.if-not-is_word_end.true)

pub returns-clause-gap : goal.returns-clause-gap
returns-clause-gap c =
    gap_ends c.args.bytes.now (length c.args.bytes.now) (omega arith)
    (λ k less. c.loop-index.invariant k (omega (arith, less, c.loop-index-test.false)))
    (λ less. absurd (omega (arith, less)))
