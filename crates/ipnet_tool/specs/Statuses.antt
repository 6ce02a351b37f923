-- The exit statuses of the program `ipnet`.
use Rattle.std.specs.Prelude.{ℕ}
use Rattle.ipnet_tool.specs.declared.failure.Failure.{Failure}
use Rattle.ipnet_tool.specs.declared.failure.Failure.TheVariants.{Arguments, Unreadable, NotUtf8, Memory, Line}
use Rattle.ipnet_tool.specs.declared.failure.Failure.TheVariants.{Unwritable}

-- The exit status of a failure: 1 for a bad line, 2 for wrong arguments, 3 for the others.
abbrev pub status_of : Failure → ℕ
status_of (Line number) = 1
status_of Arguments = 2
status_of Unreadable = 3
status_of NotUtf8 = 3
status_of Memory = 3
status_of Unwritable = 3
