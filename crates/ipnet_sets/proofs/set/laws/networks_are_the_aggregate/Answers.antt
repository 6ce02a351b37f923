-- The set has the addresses that the list covers, so the maximal blocks of both are one list.
use Rattle.ipnet_base.specs.Blocks.{IsCoveredBy}
use Rattle.ipnet_base.proofs.UniqueLaws.{AreMaximalBlocks-same_set}
use Rattle.ipnet_sets.specs.Members.{IsMember}
use Rattle.ipnet_sets.proofs.set.laws.networks_are_the_aggregate.Goals as goal

pub returns : goal.returns
returns c s list networks same blocks =
    AreMaximalBlocks-same_set (IsMember s) (IsCoveredBy list) 0 networks same blocks
