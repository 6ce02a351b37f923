-- The rules of the entries so far.
use Rattle.netset_entries.proofs.RedundancyLaws.{AreRulesTo}
use Rattle.netset_entries.proofs.redundancy.rules_of.Given as goal

abbrev pub invariant-loop-line : goal.invariant-loop-line
invariant-loop-line l = AreRulesTo l.lines l.line-index l.rules.items
