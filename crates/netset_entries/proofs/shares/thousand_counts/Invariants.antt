-- the sum of as many counts as turns
use Rattle.std.proofs.Common.{◌≡◌, ◌*◌, ◌+◌, ◌<◌, ◌≤◌}
use Rattle.netset_entries.proofs.shares.thousand_counts.Given as goal

abbrev pub invariant-loop : goal.invariant-loop
invariant-loop l = record {
  few : l.sum.whole ≤ l.counter;
  below : l.sum.rest < l.size;
  same : l.sum.whole * l.size + l.sum.rest ≡ l.count * l.counter;
}
