-- The bytes of the turns before and the bytes of this turn were read.
use Rattle.std.proofs.Common.{◌++◌}
use Rattle.std.proofs.KnownBytes.{Consumes-trans}
use Rattle.ipnet_tool.proofs.input.after_bad_bytes.Goals as goal

pub loop-preserved : goal.loop-preserved
loop-preserved g c =
    let rest = g.R.Read.remaining in
    let (more, before) = c.loop.invariant in
    let (given, grown, read) = c.in-Ok-true.ensures.read in (
      more ++ given,
      Consumes-trans (rest c.args.input.now) (rest c.loop.input) (rest c.fill.new.input) more given before
          read,
    )

pub returns-in-Ok-false-clause-whole : goal.returns-in-Ok-false-clause-whole
returns-in-Ok-false-clause-whole g c = λ _.
    let rest = g.R.Read.remaining in
    let (more, before) = c.loop.invariant in
    let (given, grown, read) = c.in-Ok-false.ensures.read in (
      more ++ given,
      record {
        given = Consumes-trans (rest c.args.input.now) (rest c.loop.input) (rest c.fill.new.input) more given before
            read;
        whole = c.in-Ok-false.ensures.end c.in-Ok-false.field-0-test;
      },
    )
