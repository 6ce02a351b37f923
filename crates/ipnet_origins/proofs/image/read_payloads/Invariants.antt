-- The payloads so far are read.
use Rattle.ipnet_origins.proofs.RecordLaws.{AreReadUpTo}
use Rattle.ipnet_origins.proofs.image.read_payloads.Given as goal

abbrev pub invariant-loop-index : goal.invariant-loop-index
invariant-loop-index l = AreReadUpTo l.image.bytes.now l.payloads.items l.index
