use Rattle.ipnet_base.proofs.AggregateLaws.{aggregate_of_aggregates}
use Rattle.ipnet_base.proofs.laws.aggregates_can_be_aggregated.Goals as goal

pub returns : goal.returns
returns c = aggregate_of_aggregates
