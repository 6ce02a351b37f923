-- The costs so far, and those that are left.
use Rattle.std.proofs.Common.{◌≡◌, ◌++◌, drop}
use Rattle.ipnet_shortest.specs.PartCovers.{costs_from}
use Rattle.ipnet_shortest.proofs.shares.push_costs.Given as goal

abbrev pub invariant-loop-more : goal.invariant-loop-more
invariant-loop-more l =
    l.costs.items ++ costs_from l.first l.second l.more (drop l.more l.shares)
    ≡ l.fn.costs.items ++ costs_from l.first l.second 0 l.shares
