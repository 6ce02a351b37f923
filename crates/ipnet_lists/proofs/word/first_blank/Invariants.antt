use Rattle.std.proofs.Common.{◌≡◌, ℕ, ◌<◌, get_or, false}
use Rattle.std.specs.Char.{is_ascii_whitespace}
use Rattle.ipnet_lists.proofs.word.first_blank.Given as goal

abbrev pub invariant-loop-index : goal.invariant-loop-index
invariant-loop-index l = (k : ℕ) → k < l.index → is_ascii_whitespace (get_or l.fn.text k 0) ≡ false
