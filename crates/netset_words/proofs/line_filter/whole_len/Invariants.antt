use Rattle.std.proofs.Common.{◌≡◌, ◌≤◌, ◌<◌, ℕ, length, get_or, false}
use Rattle.netset_words.specs.Words.{cuts}
use Rattle.netset_words.proofs.line_filter.whole_len.Given as goal

-- the bytes from `end` on do not cut
abbrev pub invariant-loop-end : goal.invariant-loop-end
invariant-loop-end l = record {
  within : l.end ≤ length l.fn.front;
  letters : (k : ℕ) → l.end ≤ k → k < length l.fn.front → cuts (get_or l.fn.front k 0) ≡ false;
}

abbrev pub decreases-loop-end : goal.decreases-loop-end
decreases-loop-end l = l.end
