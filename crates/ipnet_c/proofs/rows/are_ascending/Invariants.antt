-- The offsets up to the one before the index ascend.
use Rattle.ipnet_c.proofs.OffsetLaws.{AscendTo}
use Rattle.ipnet_c.proofs.rows.are_ascending.Given as goal

abbrev pub invariant-loop-index : goal.invariant-loop-index
invariant-loop-index l = AscendTo l.width l.offsets l.count l.index l.before
