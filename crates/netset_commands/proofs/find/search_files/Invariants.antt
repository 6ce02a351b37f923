-- each status is at most 2
use Rattle.std.proofs.Common.{◌≤◌}
use Rattle.netset_commands.proofs.find.search_files.Given as goal

abbrev pub invariant-loop-name : goal.invariant-loop-name
invariant-loop-name l = l.status ≤ 2
