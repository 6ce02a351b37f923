use Rattle.ipnet_fewest.proofs.NumberLaws.{AreCommonTo}
use Rattle.ipnet_fewest.proofs.values.values_in.Given as goal

abbrev pub invariant-loop-index : goal.invariant-loop-index
invariant-loop-index l = AreCommonTo l.first l.second l.index l.common.items
