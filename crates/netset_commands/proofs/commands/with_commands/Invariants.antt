-- the names so far and the names of the other rows are all names
use Rattle.std.proofs.Common.{◌≡◌, ◌++◌, drop}
use Rattle.netset_commands.specs.CommandLines.{command_names, names_in}
use Rattle.netset_commands.proofs.commands.with_commands.Given as goal

abbrev pub invariant-loop-row : goal.invariant-loop-row
invariant-loop-row l = command_names l.command ++ names_in (drop l.row-index l.rows)
    ≡ command_names l.fn.command ++ names_in l.rows
