-- the ids so far and the ids of the other groups are all ids
use Rattle.std.proofs.Common.{◌≡◌, ◌++◌, drop}
use Rattle.netset_commands.specs.CommandLines.{command_name, ids_in_groups, ids_of}
use Rattle.netset_commands.proofs.table.command_of.Given as goal

abbrev pub invariant-loop-arguments : goal.invariant-loop-arguments
invariant-loop-arguments l = record {
  name : command_name l.command ≡ l.row.name.now;
  ids : ids_of l.command ++ ids_in_groups (drop l.arguments-index l.row.arguments.now)
      ≡ ids_in_groups l.row.arguments.now;
}
