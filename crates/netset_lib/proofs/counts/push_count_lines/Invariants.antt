use Rattle.std.proofs.Common.{◌≡◌, ◌++◌, List, ℕ, take, string_bytes}
use Rattle.netset_lib.proofs.CountTexts.{AreFirstLines}
use Rattle.netset_lib.proofs.counts.push_count_lines.Given as goal

-- the lines of the sets before this one were appended
abbrev pub invariant-loop-set : goal.invariant-loop-set
invariant-loop-set l = (l.index ≡ l.set-index)
    × ((lines : List ℕ) × (string_bytes l.text ≡ string_bytes l.fn.text ++ lines)
    × AreFirstLines l.names l.index (take l.set-index l.sets) lines)
