use Rattle.std.proofs.Common.{◌≡◌, ℕ, ◌<◌, get_or, false}
use Rattle.std.specs.Char.{is_ascii_alphabetic}
use Rattle.netset_words.proofs.path.letter_place.Given as goal

abbrev pub invariant-loop-index : goal.invariant-loop-index
invariant-loop-index l = (k : ℕ) → k < l.index → is_ascii_alphabetic (get_or l.fn.text k 0) ≡ false
