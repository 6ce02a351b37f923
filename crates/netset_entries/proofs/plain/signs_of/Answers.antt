use Rattle.std.proofs.Common.{ap, ◌==◌}
use Rattle.netset_entries.proofs.PlainTexts.{seen_none, sign_seen, seen_all}
use Rattle.netset_entries.proofs.plain.signs_of.Goals as goal

pub loop-byte-init : goal.loop-byte-init
loop-byte-init c = seen_none c.args.text.now _

pub loop-byte-preserved : goal.loop-byte-preserved
loop-byte-preserved c =
    sign_seen c.args.text.now c.loop-byte.byte-index c.loop-byte.seen c.sign_of-seen.result c.loop-byte-test.true
    c.sign_of-seen.ensures c.loop-byte.invariant

pub returns : goal.returns
returns c =
    seen_all c.args.text.now c.loop-byte.byte-index _ _ c.loop-byte-test.false
    (ap (λ z. z == 0) c.if-seen-ne0.false) c.loop-byte.invariant
