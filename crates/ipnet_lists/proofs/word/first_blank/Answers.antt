use Rattle.std.proofs.Common.{sym, ◌∙◌, arith}
use Rattle.ipnet_lists.proofs.WordTexts.{blank_at, no_blank}
use Rattle.ipnet_lists.proofs.word.first_blank.Goals as goal

pub returns-then-is_ascii_whitespace-clause-index : goal.returns-then-is_ascii_whitespace-clause-index
returns-then-is_ascii_whitespace-clause-index c =
    blank_at c.args.text.now c.loop-index.index c.loop-index-test.true c.loop-index.invariant
    (sym c.is_ascii_whitespace.ensures.value ∙ c.if-is_ascii_whitespace.true)

pub returns-clause-index : goal.returns-clause-index
returns-clause-index c =
    no_blank c.args.text.now c.loop-index.index (omega (arith, c.loop-index-test.false)) c.loop-index.invariant
