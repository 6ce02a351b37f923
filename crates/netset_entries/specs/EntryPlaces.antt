-- The entries of a list by their indexes, counted from 0.
use Rattle.std.specs.Prelude.{◌≡◌, ◌<◌, ℕ, List, length, slice_index_or}
use Rattle.ipnet_base.specs.Address.{Address}
use Rattle.ipnet_sets.specs.SetRanges.{IsInRange}
use Rattle.netset_entries.specs.NumberedEntries.{NumberedEntry}

-- The entry is at this index of the list.
abbrev pub IsEntryAt : List NumberedEntry → ℕ → NumberedEntry → Type 0
IsEntryAt entries i e = (i < length entries) × (slice_index_or entries i e ≡ e)

-- The entry at this index has the address.
abbrev pub HasAt : List NumberedEntry → ℕ → Address → Type 0
HasAt entries i x = (e : NumberedEntry) × IsEntryAt entries i e × IsInRange e.range x
