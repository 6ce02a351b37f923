-- Each number is a run, and there is one for each span.
use Rattle.std.proofs.Common.{◌≡◌, length}
use Rattle.netset_entries.specs.Sweeps.{AreRuns}
use Rattle.netset_entries.proofs.runs.runs_of.Given as goal

abbrev pub invariant-loop-index : goal.invariant-loop-index
invariant-loop-index l = (length l.runs.items ≡ length l.spans) × AreRuns l.count l.spans l.runs.items
