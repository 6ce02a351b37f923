-- The bytes of the lanes before the index say which are inside.
use Rattle.ipnet_c.proofs.ColumnLaws.{AreLanesTo}
use Rattle.ipnet_c.proofs.bulk_numbers.answer_eight.Given as goal

abbrev pub invariant-loop-lane : goal.invariant-loop-lane
invariant-loop-lane l = AreLanesTo l.start l.lane l.inside l.fn.answers l.answers
