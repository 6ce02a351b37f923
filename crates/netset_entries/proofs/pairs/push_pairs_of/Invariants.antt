-- The lines of the lists before this one.
use Rattle.std.proofs.Common.{◌≡◌, ◌+◌, ◌-◌, ◌++◌, ◌≤◌, List, ℕ, string_bytes}
use Rattle.ipnet_sets.specs.Members.{IsMember}
use Rattle.netset_entries.specs.ListPairs.{IsPairAt}
use Rattle.netset_entries.specs.TextParts.{AreTextParts}
use Rattle.netset_entries.proofs.pairs.push_pairs_of.Given as goal

abbrev pub invariant-loop-other : goal.invariant-loop-other
invariant-loop-other l = (l.index + 1 ≤ l.other) × ((lines : List ℕ)
    × AreTextParts (IsPairAt IsMember l.names l.sets l.index) (l.index + 1) (l.other - (l.index + 1)) lines
    × (string_bytes l.text ≡ string_bytes l.fn.text ++ lines))
