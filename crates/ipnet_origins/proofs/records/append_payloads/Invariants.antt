-- The payloads so far are appended.
use Rattle.ipnet_origins.proofs.RecordLaws.{ArePayloadsUpTo}
use Rattle.ipnet_origins.proofs.records.append_payloads.Given as goal

abbrev pub invariant-loop-index : goal.invariant-loop-index
invariant-loop-index l = ArePayloadsUpTo l.payloads l.fn.bytes.items l.bytes.items l.index
