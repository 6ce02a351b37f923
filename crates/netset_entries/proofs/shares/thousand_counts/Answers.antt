use Rattle.std.proofs.Common.{sym}
use Rattle.netset_entries.proofs.ShareLineLaws.{whole_sizes}
use Rattle.netset_entries.proofs.shares.thousand_counts.Goals as goal

pub returns : goal.returns
returns c =
    whole_sizes c.args.count c.args.size c.loop.sum.whole c.loop.sum.rest c.loop.counter c.loop.invariant.below
    (sym c.loop.invariant.same) c.loop-test.false c.loop.auto.counter-end
