-- The lists of flags so far.
use Rattle.std.proofs.Common.{◌≡◌, length}
use Rattle.ipnet_rules.specs.Cells.{family_of}
use Rattle.ipnet_rules.specs.CompiledLists.{AreFlagsByLength}
use Rattle.ipnet_rules.proofs.compiled.family_verdicts.Given as goal

abbrev pub invariant-loop-prefix_len : goal.invariant-loop-prefix_len
invariant-loop-prefix_len l = (length l.permitted.items ≡ l.prefix_len)
    × AreFlagsByLength (family_of l.fn.family) l.rules l.cuts.items l.permitted.items
