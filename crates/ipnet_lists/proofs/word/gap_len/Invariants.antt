use Rattle.std.proofs.Common.{◌≡◌, ℕ, ◌<◌, get_or, true}
use Rattle.ipnet_lists.specs.Words.{ends_word}
use Rattle.ipnet_lists.proofs.word.gap_len.Given as goal

abbrev pub invariant-loop-index : goal.invariant-loop-index
invariant-loop-index l = (k : ℕ) → k < l.index → ends_word (get_or l.fn.bytes k 0) ≡ true
