-- The options `-e`: entries on the command line, which are one list.
use Rattle.std.specs.Prelude.{◌≡◌, ◌+◌, ◌<◌, ◌∷◌, ◌++◌, ℕ, List, [], Option, Some, None, All, length, slice_index_or}
use Rattle.std.specs.Global.{Global}
use Rattle.std.specs.Prelude.{String, flat_map, string_bytes, take}
use Rattle.ipnet_lists.specs.Causes.{Has}
use Rattle.netset_commands.specs.declared.arguments.ArgumentFailure.{ArgumentFailure}
use Rattle.netset_commands.specs.declared.arguments.ArgumentFailure.TheVariants.{InputTwice, ControlCharacter}
use Rattle.netset_commands.specs.declared.arguments.ArgumentFailure.TheVariants.{NoCommand, LineBreak, Memory}

-- The bytes of the list of entries: each entry is a line, which ends with "\n" (10).
-- Example: `10.0.0.0/8\n::1 # ours\n` of `-e 10.0.0.0/8 -e '::1 # ours'`.
abbrev pub entry_lines : List (List ℕ) → List ℕ
entry_lines entries = flat_map (λ entry. entry ++ 10 ∷ []) entries

-- The entry is one line.
abbrev pub IsOneLine : List ℕ → Type 0
IsOneLine entry = ¬ (Has 10 entry)

-- The text of the list of entries. There is none if there are no entries.
abbrev pub IsEntryText : List (List ℕ) → Option (String Global) → Type 0
IsEntryText entries None = entries ≡ []
IsEntryText entries (Some text) =
    (0 < length entries) × All IsOneLine entries × (string_bytes text ≡ entry_lines entries)

-- Why there is no such list: the entry with this number, from 1, is the first that is not one line. When memory runs
-- out is not specified.
abbrev pub IsEntryFailure : List (List ℕ) → ArgumentFailure → Type 0
IsEntryFailure entries (LineBreak number) =
    (index : ℕ) × (number ≡ index + 1) × (index < length entries) × Has 10 (slice_index_or entries index [])
    × All IsOneLine (take index entries)
IsEntryFailure entries InputTwice = ⊥
IsEntryFailure entries ControlCharacter = ⊥
IsEntryFailure entries NoCommand = ⊥
IsEntryFailure entries Memory = Unit {0}
