use Rattle.ipnet_base.proofs.NetworkLaws.{same_block_iff_same_truncation}
use Rattle.ipnet_base.proofs.laws.inclusion_is_an_order.Goals as goal

pub returns-clause-mutual : goal.returns-clause-mutual
returns-clause-mutual c = same_block_iff_same_truncation
