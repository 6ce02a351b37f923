-- The entries so far have the name of the first.
use Rattle.std.proofs.Common.{◌≡◌, ◌<◌, ℕ, get_or}
use Rattle.netset_lib.specs.declared.prefix_entry.NamedRule.{NamedRule}
use Rattle.netset_lib.specs.PrefixEntryOf.{entry_of}
use Rattle.netset_lib.proofs.prefix_choice.have_one_name.Given as goal

abbrev pub invariant-loop-index : goal.invariant-loop-index
invariant-loop-index l = (k : ℕ) (d : NamedRule) → k < l.index
    → (entry_of (get_or l.entries k d)).name ≡ (entry_of (get_or l.entries 0 d)).name
