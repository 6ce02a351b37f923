-- It is known whether each rule before the place decides on an address.
use Rattle.netset_lib.specs.RuleWriting.{AreAnswered}
use Rattle.netset_lib.proofs.rule_writing.has_unreached.Given as goal

abbrev pub invariant-loop-place : goal.invariant-loop-place
invariant-loop-place l = AreAnswered l.rules l.place l.some
