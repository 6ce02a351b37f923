-- The words of the reports for lines that are not lines of a table with texts.
use Rattle.std.specs.Prelude.{◌≡◌, ℕ, List, codes, Option}
use Rattle.ipnet_lists.specs.Reports.{cause_words}
use Rattle.ipnet_lists.specs.declared.cause.Cause.{Cause}
use Rattle.netset_lib.specs.TextTables.{IsTextCause}
use Rattle.netset_lib.specs.declared.text_line.NotTextLine.{NotTextLine}

-- The text is not a line of such a table, for the cause that `IsTextCause` names.
abbrev pub ExplainsTextLine : NotTextLine → List ℕ → List ℕ → Option (List ℕ) → Type 0
ExplainsTextLine line text what why = (what ≡ codes "not an entry, with or without text")
    × ((cause : Option Cause) × IsTextCause line.grammar text cause × (why ≡ cause_words cause))
