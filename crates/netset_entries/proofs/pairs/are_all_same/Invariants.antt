-- The sets before this one are like the first.
use Rattle.std.proofs.Common.{All, take}
use Rattle.ipnet_sets.specs.Members.{HaveSameAddresses}
use Rattle.netset_entries.proofs.pairs.are_all_same.Given as goal

abbrev pub invariant-loop-other : goal.invariant-loop-other
invariant-loop-other l = All (λ s. HaveSameAddresses s l.first) (take l.other-index l.others)
