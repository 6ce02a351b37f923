-- The blocks of the lists so far.
use Rattle.std.proofs.Common.{◌≡◌}
use Rattle.netset_entries.specs.NoteSteps.{blocks_in}
use Rattle.netset_entries.proofs.largest.joined.Given as goal

abbrev pub invariant-loop-list : goal.invariant-loop-list
invariant-loop-list l = l.blocks.items ≡ blocks_in l.yielded
