-- The best shares so far.
use Rattle.std.proofs.Common.{◌≡◌, length}
use Rattle.ipnet_shortest.specs.PartCovers.{AreBestShares}
use Rattle.ipnet_shortest.proofs.shares.best_shares.Given as goal

abbrev pub invariant-loop-more : goal.invariant-loop-more
invariant-loop-more l = (length l.shares.items ≡ l.more) × AreBestShares l.first l.second l.shares.items
