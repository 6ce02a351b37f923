use Rattle.std.proofs.Common.{◌≡◌, ◌≤◌, ◌<◌, ℕ, length, get_or, true}
use Rattle.netset_words.specs.Places.{is_end}
use Rattle.netset_words.proofs.place.trimmed_len.Given as goal

-- each byte from `end` on is "." or "-"
abbrev pub invariant-loop-end : goal.invariant-loop-end
invariant-loop-end l = record {
  within : l.end ≤ length l.fn.text;
  ends : (k : ℕ) → l.end ≤ k → k < length l.fn.text → is_end (get_or l.fn.text k 0) ≡ true;
}

abbrev pub decreases-loop-end : goal.decreases-loop-end
decreases-loop-end l = l.end
