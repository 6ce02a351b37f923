-- No two entries side by side so far have the same place.
use Rattle.std.proofs.Common.{◌≡◌, ◌<◌, ◌+◌, ℕ, map, slice_index}
use Rattle.netset_lib.specs.PrefixEntries.{place_of}
use Rattle.netset_lib.specs.PrefixEntryOf.{entry_of}
use Rattle.netset_lib.proofs.prefix_choice.same_number.Given as goal

abbrev pub invariant-loop-index : goal.invariant-loop-index
invariant-loop-index l = (i : ℕ) → i + 1 < l.index
    → slice_index (map place_of (map entry_of l.entries)) i
    ≡ slice_index (map place_of (map entry_of l.entries)) (i + 1) → ⊥
