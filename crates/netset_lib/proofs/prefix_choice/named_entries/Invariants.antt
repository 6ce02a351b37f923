-- The entries so far that have the name.
use Rattle.std.proofs.Common.{◌≡◌, filter, take}
use Rattle.netset_lib.specs.PrefixEntries.{is_named}
use Rattle.netset_lib.specs.PrefixEntryOf.{entry_of}
use Rattle.netset_lib.proofs.prefix_choice.named_entries.Given as goal

abbrev pub invariant-loop-entry : goal.invariant-loop-entry
invariant-loop-entry l = l.named.items
    ≡ filter (λ e. is_named l.name (entry_of e)) (take l.entry-index l.entries)
