-- The lists from `len` on are empty, and nothing was dropped.
use Rattle.netset_entries.proofs.NoteLaws.{IsUpTo}
use Rattle.netset_entries.proofs.largest.Largest.drop_smallest.Given as goal

abbrev pub invariant-loop-len : goal.invariant-loop-len
invariant-loop-len l = IsUpTo l.len l.fn.self l.self
