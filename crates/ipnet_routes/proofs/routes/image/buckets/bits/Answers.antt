-- Each test decides one branch of the definition.
use Rattle.std.proofs.Common.{le-leb, arith}
use Rattle.std.proofs.lemmas.Bool.{lt-leb}
use Rattle.ipnet_routes.specs.TableImages.{index_bits}
use Rattle.ipnet_routes.proofs.routes.image.buckets.bits.Goals as goal

pub returns-then-count-ge524288-clause-bits : goal.returns-then-count-ge524288-clause-bits
unfolding index_bits
returns-then-count-ge524288-clause-bits c = rw (le-leb 524288 c.args.count (c.if-count-ge524288.true))

pub returns-then-count-ge65536-clause-bits : goal.returns-then-count-ge65536-clause-bits
unfolding index_bits
returns-then-count-ge65536-clause-bits c =
    rw (
      lt-leb 524288 c.args.count (omega (arith, c.if-count-ge524288.false)),
      le-leb 65536 c.args.count
          (c.if-count-ge65536.true),
    )

pub returns-then-count-ge4096-clause-bits : goal.returns-then-count-ge4096-clause-bits
unfolding index_bits
returns-then-count-ge4096-clause-bits c =
    rw (
      lt-leb 524288 c.args.count (omega (arith, c.if-count-ge524288.false)),
      lt-leb 65536 c.args.count
          (omega (arith, c.if-count-ge65536.false)),
      le-leb 4096 c.args.count (c.if-count-ge4096.true),
    )

pub returns-then-count-ge256-clause-bits : goal.returns-then-count-ge256-clause-bits
unfolding index_bits
returns-then-count-ge256-clause-bits c =
    rw (
      lt-leb 524288 c.args.count (omega (arith, c.if-count-ge524288.false)),
      lt-leb 65536 c.args.count
          (omega (arith, c.if-count-ge65536.false)),
      lt-leb 4096 c.args.count (omega (arith, c.if-count-ge4096.false)),
      le-leb
          256 c.args.count (c.if-count-ge256.true),
    )

pub returns-clause-bits : goal.returns-clause-bits
unfolding index_bits
returns-clause-bits c =
    rw (
      lt-leb 524288 c.args.count (omega (arith, c.if-count-ge524288.false)),
      lt-leb 65536 c.args.count
          (omega (arith, c.if-count-ge65536.false)),
      lt-leb 4096 c.args.count (omega (arith, c.if-count-ge4096.false)),
      lt-leb
          256 c.args.count (omega (arith, c.if-count-ge256.false)),
    )
