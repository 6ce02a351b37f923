use Rattle.std.proofs.Common.{◌≡◌, ℕ, ◌<◌, ◌+◌, get_or}
use Rattle.netset_words.proofs.host.has_pair.Given as goal

abbrev pub invariant-loop-index : goal.invariant-loop-index
invariant-loop-index l =
    (k : ℕ) → k + 1 < l.index → get_or l.fn.text k 0 ≡ 58 → get_or l.fn.text (k + 1) 0 ≡ 58 → ⊥
