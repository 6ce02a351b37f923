-- The text after the heading is not an entry.
use Rattle.std.proofs.Common.{inr}
use Rattle.std.proofs.lemmas.Result.{IfErr-weaker}
use Rattle.netset_lib.specs.PrefixEntryOf.{line_family}
use Rattle.netset_lib.proofs.prefix_entry.read_prefix_entry.Goals as goal

pub returns-in-Some-clause-cause : goal.returns-in-Some-clause-cause
returns-in-Some-clause-cause c =
    let heading = c.in-Some.heading in
    IfErr-weaker c.headed_entry.result _ _
    (λ cause h. inr (line_family heading.family, heading.name.now, heading.rest.now, c.in-Some.ensures.some, h))
    c.headed_entry.ensures.cause
