-- The output of a command.
use Rattle.std.specs.Prelude.{◌≢◌, ℕ, List, Option, Some, None}
use Rattle.netset_files.specs.Files.{standard_input}
use Rattle.netset_files.specs.declared.output.Destination.{Destination}
use Rattle.netset_files.specs.declared.output.Destination.TheVariants.{Standard, File}

-- The answer goes into a file.
abbrev pub IsFile : Destination → Type 0
IsFile (Standard out) = ⊥
IsFile (File file) = Unit {0}

-- This is the name of a file: there is a name, and it is not `-`, which is standard output here.
abbrev pub IsNamedFile : Option (List ℕ) → Type 0
IsNamedFile None = ⊥
IsNamedFile (Some name) = name ≢ standard_input
