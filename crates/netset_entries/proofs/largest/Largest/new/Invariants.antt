-- Each list so far is empty.
use Rattle.std.proofs.Common.{◌≡◌, [], All, length}
use Rattle.netset_entries.proofs.largest.Largest.new.Given as goal

abbrev pub invariant-loop : goal.invariant-loop
invariant-loop l = record {
  none : All (λ v. v.items ≡ []) l.by_len.items;
  size : length l.by_len.items ≡ l.counter;
}
