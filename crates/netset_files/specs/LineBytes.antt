-- Lists that have no line.
use Rattle.std.specs.Prelude.{◌≡◌, ◌≢◌, ◌⊎◌, ℕ, List, Any}
use Rattle.ipnet.specs.Lines.{lines_of}
use Rattle.ipnet_lists.specs.ContentLines.{IsSomeLine}
use Rattle.ipnet_lists.specs.Lists.{after_mark}
use Rattle.netset_files.specs.Files.{standard_input}
use Rattle.netset_files.specs.declared.lists.Empties.TheVariants.{Refuse}
use Rattle.netset_files.specs.declared.lists.Reports.{Reports}

-- The list of this name may have these bytes: they have a line, or it is standard input, or files without a line are
-- not refused.
abbrev pub MayHaveLines : Reports → (name bytes : List ℕ) → Type 0
MayHaveLines reports name bytes = Any IsSomeLine (lines_of (after_mark bytes))
    ⊎ ((name ≡ standard_input) ⊎ (reports.empties ≢ Refuse))
