use Rattle.ipnet_sets.specs.Members.{IsMemberOf}
use Rattle.ipnet_sets.proofs.CountSums.{one_count}
use Rattle.ipnet_sets.proofs.set.laws.a_set_has_one_count.Goals as goal

pub returns : goal.returns
returns c f s m n h k = one_count (IsMemberOf f s) m n h k
