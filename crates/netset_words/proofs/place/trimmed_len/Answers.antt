use Rattle.std.proofs.Common.{sym, ◌∙◌, arith}
use Rattle.netset_words.proofs.PlaceBytes.{ends_cut}
use Rattle.netset_words.proofs.place.trimmed_len.Goals as goal

pub returns-else-is_end-clause-len : goal.returns-else-is_end-clause-len
returns-else-is_end-clause-len c =
    ends_cut c.args.text.now c.loop-end.end c.loop-end.invariant.within c.loop-end.invariant.ends
    (λ some. sym c.is_end.ensures ∙ c.if-is_end.false)

pub returns-after-loop-end-clause-len : goal.returns-after-loop-end-clause-len
returns-after-loop-end-clause-len c =
    ends_cut c.args.text.now c.loop-end.end c.loop-end.invariant.within c.loop-end.invariant.ends
    (λ some. absurd (omega (arith, some, c.loop-end-test.false)))
