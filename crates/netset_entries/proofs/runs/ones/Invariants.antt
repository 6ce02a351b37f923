-- The numbers so far are one.
use Rattle.std.proofs.Common.{◌≡◌, All, length}
use Rattle.netset_entries.proofs.runs.ones.Given as goal

abbrev pub invariant-loop : goal.invariant-loop
invariant-loop l = (length l.runs.items ≡ l.counter) × All (λ run. run ≡ 1) l.runs.items
