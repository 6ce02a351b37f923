use Rattle.ipnet_base.proofs.NeighbourLaws.{neighbours_iff_own_aggregate}
use Rattle.ipnet_base.proofs.laws.neighbours_show_an_aggregate.Goals as goal

pub returns : goal.returns
returns c = neighbours_iff_own_aggregate
