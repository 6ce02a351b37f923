-- the ids so far and the ids of the other arguments are all ids
use Rattle.std.proofs.Common.{◌≡◌, ◌++◌, drop}
use Rattle.netset_commands.specs.CommandLines.{command_name, ids_in, ids_of}
use Rattle.netset_commands.proofs.table.with_arguments.Given as goal

abbrev pub invariant-loop-argument : goal.invariant-loop-argument
invariant-loop-argument l = record {
  name : command_name l.command ≡ command_name l.fn.command;
  ids : ids_of l.command ++ ids_in (drop l.argument-index l.arguments) ≡ ids_of l.fn.command ++ ids_in l.arguments;
}
