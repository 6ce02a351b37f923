-- The bytes before the rest were read.
use Rattle.std.proofs.Common.{length}
use Rattle.netset_entries.specs.NoteSteps.{ReadsUpTo}
use Rattle.netset_entries.proofs.noted.EntryNotes.take_lines.Given as goal

abbrev pub invariant-lines : goal.invariant-lines
invariant-lines l = ReadsUpTo l.fn.self l.self l.fn.bytes l.rest

abbrev pub decreases-lines : goal.decreases-lines
decreases-lines l = length l.rest
