-- The entries so far have names.
use Rattle.std.proofs.Common.{◌≡◌, All, map, take, None}
use Rattle.netset_lib.specs.PrefixEntryOf.{entry_of}
use Rattle.netset_lib.proofs.prefix_choice.have_names.Given as goal

abbrev pub invariant-loop-entry : goal.invariant-loop-entry
invariant-loop-entry l = All (λ e. e.name ≡ None → ⊥) (map entry_of (take l.entry-index l.entries))
