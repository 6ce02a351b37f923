-- The list has the ends of the pieces of each rule so far.
use Rattle.std.proofs.Common.{take, All}
use Rattle.ipnet_rules.specs.Cells.{family_of}
use Rattle.ipnet_rules.proofs.CellLaws.{HasEnds}
use Rattle.ipnet_rules.proofs.cells.cuts_of.Given as goal

abbrev pub invariant-loop-rule : goal.invariant-loop-rule
invariant-loop-rule l = All (λ r. HasEnds (family_of l.family) l.cuts.items r.addresses) (take l.rule-index l.rules)
