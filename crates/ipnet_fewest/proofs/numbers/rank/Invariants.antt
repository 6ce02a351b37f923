use Rattle.std.proofs.Common.{◌-◌}
use Rattle.ipnet_fewest.proofs.RankLaws.{IsRankWithin}
use Rattle.ipnet_fewest.proofs.numbers.rank.Given as goal

abbrev pub invariant-loop-low : goal.invariant-loop-low
invariant-loop-low g l = IsRankWithin g.V.Ord.cmp l.values l.value l.low l.high

abbrev pub decreases-loop-low : goal.decreases-loop-low
decreases-loop-low g l = l.high - l.low
