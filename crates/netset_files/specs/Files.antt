-- The names of standard input and of the entries of `-e`, why a file was not opened, and the folder that it is in.
use Rattle.std.specs.Prelude.{◌≡◌, ℕ, List, [], ◌∷◌, Option, Some, None, codes}
use Rattle.std.specs.IoError.{error_kind}
use Rattle.std.specs.declared.io.Error.{Error}
use Rattle.std.specs.declared.io.ErrorKind.TheVariants.{OutOfMemory}

-- The name of standard input.
abbrev pub standard_input : List ℕ
standard_input = codes "-"

-- The name of the list of the entries on the command line. A file may have this name too.
abbrev pub entry_list : List ℕ
entry_list = codes "-e"

-- The system had no memory left.
abbrev pub IsOutOfMemory : Error → Type 0
IsOutOfMemory error = error_kind error ≡ OutOfMemory

-- The folder of a file: what its path names before the name of the file, or the folder at hand.
-- Example: `a/b` for `a/b/c`, and `.` for `c`.
abbrev pub folder_of : Option (List ℕ) → List ℕ
folder_of None = codes "."
folder_of (Some []) = codes "."
folder_of (Some (byte ∷ bytes)) = byte ∷ bytes
