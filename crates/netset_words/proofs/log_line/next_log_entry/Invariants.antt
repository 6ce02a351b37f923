use Rattle.std.proofs.Common.{length, ◌≤◌}
use Rattle.netset_words.proofs.LogLaws.{IsPassed}
use Rattle.netset_words.proofs.log_line.next_log_entry.Given as goal

-- the words before the rest are not entries
abbrev pub invariant-words : goal.invariant-words
invariant-words l = record {
  passed : IsPassed l.fn.request.grammar l.fn.bytes l.rest;
  shorter : length l.rest ≤ length l.fn.bytes;
}

abbrev pub decreases-words : goal.decreases-words
decreases-words l = length l.rest
