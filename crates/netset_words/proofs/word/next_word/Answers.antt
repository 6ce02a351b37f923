use Rattle.std.proofs.Common.{sym, ◌∙◌, refl}
use Rattle.std.proofs.lemmas.Bool.{eqb-false, eqb-true}
use Rattle.netset_words.proofs.WordLaws.{gap_is_all, word_cut}
use Rattle.netset_words.proofs.word.next_word.Goals as goal

pub returns-then-is_empty-clause-none : goal.returns-then-is_empty-clause-none
returns-then-is_empty-clause-none c =
    gap_is_all c.args.bytes.now _ c.gap_len-gap.result refl c.gap_len-gap.ensures.within c.gap_len-gap.ensures.cut
    (eqb-true _ 0 (sym c.is_empty.ensures ∙ c.if-is_empty.true))

pub returns-clause-words : goal.returns-clause-words
returns-clause-words c =
    word_cut c.args.bytes.now _ c.gap_len-gap.result c.word_len-len.result refl c.gap_len-gap.ensures.within
    c.gap_len-gap.ensures.cut c.gap_len-gap.ensures.next
    (eqb-false _ 0 (sym c.is_empty.ensures ∙ c.if-is_empty.false)) c.word_len-len.ensures.within
    c.word_len-len.ensures.word c.word_len-len.ensures.next
