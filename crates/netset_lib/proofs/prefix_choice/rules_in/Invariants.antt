-- The rules of the entries so far.
use Rattle.std.proofs.Common.{◌≡◌, map, take}
use Rattle.netset_lib.specs.PrefixEntryOf.{entry_of}
use Rattle.netset_lib.proofs.prefix_choice.rules_in.Given as goal

abbrev pub invariant-loop-entry : goal.invariant-loop-entry
invariant-loop-entry l = l.rules.items ≡ map (λ e. e.rule) (map entry_of (take l.entry-index l.entries))
