use Rattle.std.proofs.Common.{Option, drop}
use Rattle.ipnet_lists.specs.declared.cause.Cause.{Cause}
use Rattle.ipnet_lists.specs.Causes.{IsFirstOf}
use Rattle.ipnet_lists.proofs.cause.first_cause.Given as goal

-- the first of the causes that are left is the first of all
abbrev pub invariant-loop-index : goal.invariant-loop-index
invariant-loop-index l =
    (reported : Option Cause) → IsFirstOf (drop l.index l.fn.causes) l.fn.text reported
    → IsFirstOf l.fn.causes l.fn.text reported
