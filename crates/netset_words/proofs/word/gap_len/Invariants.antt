use Rattle.std.proofs.Common.{◌≡◌, ℕ, ◌<◌, get_or, true}
use Rattle.netset_words.specs.Words.{cuts}
use Rattle.netset_words.proofs.word.gap_len.Given as goal

abbrev pub invariant-loop-index : goal.invariant-loop-index
invariant-loop-index l = (k : ℕ) → k < l.index → cuts (get_or l.fn.bytes k 0) ≡ true
