use Rattle.ipnet_base.proofs.AggregateLaws.{same_aggregate_iff_same_cover}
use Rattle.ipnet_base.proofs.laws.equal_aggregates_are_equal_covers.Goals as goal

pub returns : goal.returns
returns c = same_aggregate_iff_same_cover
