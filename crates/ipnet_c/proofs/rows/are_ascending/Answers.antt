-- Each turn compares an offset with the one before it.
use Rattle.std.proofs.Common.{arith, le-leb, leb-true}
use Rattle.ipnet_c.proofs.OffsetLaws.{first_offset, next_offset, ascending, last_fits}
use Rattle.ipnet_c.proofs.rows.are_ascending.Goals as goal

pub loop-index-init : goal.loop-index-init
loop-index-init c =
    first_offset c.args.width c.args.offsets.now c.args.count c.read_offset-before.result c.read_offset-before.ensures

pub loop-index-preserved : goal.loop-index-preserved
loop-index-preserved c =
    next_offset c.args.width c.args.offsets.now c.args.count c.loop-index.index c.loop-index.before
    c.read_offset-next.result c.loop-index.invariant (omega (arith, c.loop-index-test.true)) c.read_offset-next.ensures
    (omega (arith, c.if-next-before.false))

pub returns : goal.returns
returns c = (
  λ t. ascending c.args.size c.args.width c.args.offsets.now c.args.count c.loop-index.index c.loop-index.before
      c.loop-index.invariant (omega (arith, c.loop-index-test.false)) (leb-true c.loop-index.before c.args.size t),
  λ all. le-leb c.loop-index.before c.args.size (last_fits c.args.size c.args.width c.args.offsets.now c.args.count
      c.loop-index.index c.loop-index.before c.loop-index.invariant (omega (arith, c.loop-index-test.false)) all),
)
