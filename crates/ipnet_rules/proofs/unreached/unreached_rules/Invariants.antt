-- The list has each unreached rule so far.
use Rattle.ipnet_rules.proofs.UnreachedLaws.{AreUnreachedTo}
use Rattle.ipnet_rules.proofs.unreached.unreached_rules.Given as goal

abbrev pub invariant-loop-place : goal.invariant-loop-place
invariant-loop-place l = AreUnreachedTo l.rules l.place l.found.items
