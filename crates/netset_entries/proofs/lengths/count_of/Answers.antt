use Rattle.std.proofs.Common.{◌≡◌, ◌≤◌, ◌∙◌, cond, ap, arith}
use Rattle.ipnet.specs.NetworkOf.{ip_network}
use Rattle.ipnet_bars.proofs.SummaryLaws.{at_most_one, test_counted}
use Rattle.netset_entries.specs.Lengths.{has_length}
use Rattle.netset_entries.specs.Spans.{family_of}
use Rattle.netset_entries.proofs.LengthLaws.{one_more_with}
use Rattle.netset_entries.proofs.lengths.count_of.Goals as goal

pub loop-network-preserved : goal.loop-network-preserved
loop-network-preserved c =
    let item = c.network-item.result in
    let f = family_of c.args.family in
    let added : c.from-count.result ≡ cond (has_length f c.args.len (ip_network item)) 1 0
    = c.from-count.ensures ∙ test_counted c.has_length.result ∙ ap (λ z. cond z 1 0) c.has_length.ensures in
    let one : c.from-count.result ≤ 1
    = at_most_one (has_length f c.args.len (ip_network item)) c.from-count.result added in
    let more = one_more_with ip_network f c.args.len c.args.networks.now c.loop-network.network-index item
    c.loop-network-test.true c.network-item.is in
    record {
      within = omega (arith, one, c.loop-network.invariant.within);
      counted = omega (arith, c.loop-network.invariant.counted, added, more);
    }
