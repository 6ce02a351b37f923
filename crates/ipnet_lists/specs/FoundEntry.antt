-- An entry that was read, as contracts see it.
-- Only private contracts use these.
use Rattle.std.specs.Prelude.{ℕ, List}
use Rattle.ipnet_base.specs.Ranges.{AddressRange}
use Rattle.ipnet_lists.specs.declared.entry.Entry.{Entry}
use Rattle.ipnet_lists.specs.declared.reader.FoundEntry.{FoundEntry}
use Rattle.ipnet_lists.specs.EntryOf.{entry_range}
use Rattle.ipnet_lists.specs.Lists.{ListEntry}

-- Its range.
abbrev pub found_range : FoundEntry → AddressRange
found_range f = entry_range f.entry

-- The entry that is spelled as this text.
abbrev pub entry_of : List ℕ → Entry → ListEntry
entry_of text entry = record { text = text; range = entry_range entry }
