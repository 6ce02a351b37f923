-- The bytes that may be the list's.
use Rattle.std.proofs.Common.{subst}
use Rattle.netset_files.specs.LineBytes.{MayHaveLines}
use Rattle.netset_files.proofs.reading.bytes_of.Goals as goal

pub returns-then-may_have_lines-clause-lines : goal.returns-then-may_have_lines-clause-lines
returns-then-may_have_lines-clause-lines c =
    subst (MayHaveLines c.args.reports c.args.name.now) c.as_slice.ensures.value
    (c.may_have_lines.ensures.exact.0 c.if-may_have_lines.true)
