-- Nothing is left of a range, so the networks are those of the ranges.
use Rattle.std.proofs.Common.{ap, sym, subst, ◌++◌}
use Rattle.ipnet_base.specs.Blocks.{AreMaximalBlocks}
use Rattle.ipnet_sets.specs.Members.{IsMember}
use Rattle.ipnet_sets.specs.RangeBlocks.{blocks_of}
use Rattle.ipnet_sets.specs.RangesLeft.{ranges_left}
use Rattle.ipnet_sets.proofs.NetworkListLaws.{networks_are}
use Rattle.ipnet_sets.proofs.set.IpSet.iter_networks.Goals as goal

pub returns : goal.returns
returns c =
    let networks = blocks_of (ranges_left c.ranges-ranges.result) in
    subst (AreMaximalBlocks (IsMember c.args.self.now) 0) (ap (λ z. z ++ networks) (sym c.empty_walk.ensures))
    (networks_are c.args.self.now (ranges_left c.ranges-ranges.result) c.ranges-ranges.ensures.ranges)
