use Rattle.ipnet_base.proofs.BlockLaws.{least_exists, greatest_exists, block_is_between}
use Rattle.ipnet_base.proofs.laws.block_is_an_interval.Goals as goal

pub returns : goal.returns
returns c = record {
  least = least_exists;
  greatest = greatest_exists;
  between = block_is_between;
}
