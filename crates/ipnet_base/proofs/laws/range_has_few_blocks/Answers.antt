use Rattle.ipnet_base.proofs.CountLaws.{maximal_blocks_bound}
use Rattle.ipnet_base.proofs.laws.range_has_few_blocks.Goals as goal

pub returns : goal.returns
returns c = λ f start end networks fits. maximal_blocks_bound f start end fits networks
