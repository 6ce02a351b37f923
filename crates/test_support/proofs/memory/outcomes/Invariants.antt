use Rattle.test_support.proofs.memory.outcomes.Given as goal

-- the call can be made once more
abbrev pub invariant-loop-run : goal.invariant-loop-run
invariant-loop-run g l = goal.F-IsAlwaysCallable g l.call
