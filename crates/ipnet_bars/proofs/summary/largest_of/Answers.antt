use Rattle.std.proofs.Common.{map, option_map, subst, take_all}
use Rattle.ipnet.specs.NetworkOf.{ip_network}
use Rattle.ipnet_bars.specs.Summaries.{IsLargest}
use Rattle.ipnet_bars.proofs.SummaryLaws.{one_more_compared}
use Rattle.ipnet_bars.proofs.summary.largest_of.Goals as goal

pub loop-network-preserved : goal.loop-network-preserved
loop-network-preserved c =
    one_more_compared ip_network c.args.networks.now c.loop-network.network-index c.network-item.result
    c.loop-network.largest c.larger-next.result c.loop-network-test.true c.network-item.is c.loop-network.invariant
    c.larger-next.ensures.none c.larger-next.ensures.some

pub returns : goal.returns
returns c =
    subst (λ z. IsLargest (map ip_network z) (option_map ip_network c.loop-network.largest))
    (take_all c.loop-network.network-index c.args.networks.now c.loop-network-test.false) c.loop-network.invariant
