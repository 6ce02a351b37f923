-- The blocks are found step by step (`WalkLaws`); the rest holds of every set that can be decided.
use Rattle.ipnet_base.specs.Address.{IsBetween}
use Rattle.ipnet_base.proofs.WalkLaws.{blocks_exist}
use Rattle.ipnet_base.proofs.ExactCoverLaws.{IsShortestCover-of_range}
use Rattle.ipnet_base.proofs.UniqueLaws.{maximal_blocks_apart}
use Rattle.ipnet_base.proofs.laws.range_is_tiled.Goals as goal

pub returns : goal.returns
returns c = record {
  exists = blocks_exist;
  shortest = IsShortestCover-of_range;
  apart = λ f start end m networks. maximal_blocks_apart (IsBetween f start end) m networks;
}
