use Rattle.std.proofs.Common.{◌≡◌}
use Rattle.ipnet_tool.proofs.program.after_name.Given as goal

-- the words that were taken
abbrev pub invariant-loop-word : goal.invariant-loop-word
invariant-loop-word l = l.args.items ≡ l.yielded
