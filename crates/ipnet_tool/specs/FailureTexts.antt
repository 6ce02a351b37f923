-- The lines that the program `ipnet` writes to standard error.
use Rattle.std.specs.Prelude.{◌≡◌, ℕ, List, [], ◌∷◌, ◌++◌, codes, decimal, Option}
use Rattle.std.specs.Io.{StartsWith}
use Rattle.std.specs.Io.KnownBytes.{Appends}
use Rattle.ipnet_tool.specs.declared.failure.Failure.{Failure}
use Rattle.ipnet_tool.specs.declared.failure.Failure.TheVariants.{Arguments, Unreadable, NotUtf8, Memory, Line}
use Rattle.ipnet_tool.specs.declared.failure.Failure.TheVariants.{Unwritable}

-- The text of a failure.
-- Example: `line 2: invalid IP address syntax` if line 2 is bad.
abbrev pub failure_text : Failure → List ℕ
failure_text (Line number) = codes "line " ++ decimal number ++ codes ": invalid IP address syntax"
failure_text Arguments = codes "ipnet: takes no argument or the word legacy"
failure_text Unreadable = codes "ipnet: input cannot be read"
failure_text NotUtf8 = codes "ipnet: input is not UTF-8"
failure_text Memory = codes "ipnet: out of memory"
failure_text Unwritable = codes "ipnet: output cannot be written"

-- The line that reports a failure: its text and "\n" (10).
-- Example: `"ipnet: out of memory\n"`.
abbrev pub failure_line : Failure → List ℕ
failure_line failure = failure_text failure ++ 10 ∷ []

-- The line of this failure was written: all of it, or a front of it if a write failed. `held` has the bytes that the
-- writer has received before, and `held_after` those after it. They are `None` if unknown.
-- Example: a writer that received `"ipnet: out"` and then failed, for the line `"ipnet: out of memory\n"`.
pub record IsReported (failure : Failure) (held held_after : Option (List ℕ)) (HasFailed : Type 0) : Type 0 where
  pub front : List ℕ
  pub begins : StartsWith (failure_line failure) front
  pub written : Appends held held_after front
  pub whole : ¬ HasFailed → front ≡ failure_line failure
