use Rattle.ipnet_base.proofs.AggregateLaws.{IsCanonicalAggregateOf-from_aggregate, aggregate_apart}
use Rattle.ipnet_base.proofs.laws.aggregate_is_canonical.Goals as goal

pub returns : goal.returns
returns c = record {
  canonical = IsCanonicalAggregateOf-from_aggregate;
  disjoint = aggregate_apart;
}
