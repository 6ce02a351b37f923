use Rattle.std.proofs.Common.{◌≡◌, ℕ, ◌<◌, get_or, false}
use Rattle.ipnet_lists.specs.Words.{ends_word}
use Rattle.ipnet_lists.proofs.word.word_len.Given as goal

abbrev pub invariant-loop-index : goal.invariant-loop-index
invariant-loop-index l = (k : ℕ) → k < l.index → ends_word (get_or l.fn.bytes k 0) ≡ false
