use Rattle.std.proofs.Common.{sym, ◌∙◌, arith}
use Rattle.ipnet_lists.proofs.FollowLaws.{dash_at, no_dash}
use Rattle.ipnet_lists.proofs.cause_follows.dash_start.Goals as goal

pub returns-then-is_dash_byte-clause-index : goal.returns-then-is_dash_byte-clause-index
returns-then-is_dash_byte-clause-index c =
    dash_at c.args.text.now c.loop-index.index c.loop-index-test.true c.loop-index.invariant
    (sym c.is_dash_byte.ensures ∙ c.if-is_dash_byte.true)

pub returns-clause-index : goal.returns-clause-index
returns-clause-index c =
    no_dash c.args.text.now c.loop-index.index (omega (arith, c.loop-index-test.false)) c.loop-index.invariant
