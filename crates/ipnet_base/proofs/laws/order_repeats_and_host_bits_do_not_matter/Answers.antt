use Rattle.ipnet_base.proofs.AggregateLaws.{aggregate_of_same_truncations}
use Rattle.ipnet_base.proofs.laws.order_repeats_and_host_bits_do_not_matter.Goals as goal

pub returns : goal.returns
returns c = aggregate_of_same_truncations
