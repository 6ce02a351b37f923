use Rattle.std.proofs.Common.{sym, ◌∙◌, arith}
use Rattle.ipnet_lists.proofs.CommentLaws.{word_ends, word_is_all}
use Rattle.ipnet_lists.proofs.word.word_len.Goals as goal

pub returns-then-is_word_end-clause-word : goal.returns-then-is_word_end-clause-word
returns-then-is_word_end-clause-word c =
    word_ends c.args.bytes.now c.loop-index.index c.loop-index-test.true c.loop-index.invariant
    (sym c.is_word_end.ensures ∙ c.if-is_word_end.true)

pub returns-clause-word : goal.returns-clause-word
returns-clause-word c =
    word_is_all c.args.bytes.now c.loop-index.index (omega (arith, c.loop-index-test.false)) c.loop-index.invariant
