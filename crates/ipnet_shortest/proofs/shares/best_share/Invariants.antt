-- The best share so far.
use Rattle.ipnet_shortest.proofs.ShareLaws.{IsBestSoFar}
use Rattle.ipnet_shortest.proofs.shares.best_share.Given as goal

abbrev pub invariant-loop-share : goal.invariant-loop-share
invariant-loop-share l = IsBestSoFar l.first l.second l.more l.start l.share l.best l.least
