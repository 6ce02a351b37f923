use Rattle.std.proofs.Common.{◌≡◌, ◌≤◌, ◌+◌, ◌∙◌, cond, nat_eq, ap, refl, arith}
use Rattle.ipnet.specs.NetworkOf.{ip_network}
use Rattle.ipnet_bars.proofs.SummaryLaws.{one_more_counted, at_most_one, test_counted}
use Rattle.ipnet_bars.proofs.summary.count_of.Goals as goal

pub loop-network-preserved : goal.loop-network-preserved
loop-network-preserved c =
    let item = c.network-item.result in
    let added : c.from-count.result ≡ cond (nat_eq (ip_network item).prefix_len c.args.len) 1 0
    = c.from-count.ensures ∙ test_counted (nat_eq c.prefix_len.result c.args.len)
    ∙ ap (λ z. cond (nat_eq z c.args.len) 1 0) c.prefix_len.ensures in
    let one : c.from-count.result ≤ 1
    = at_most_one (nat_eq (ip_network item).prefix_len c.args.len) c.from-count.result added in
    record {
      within = omega (arith, one, c.loop-network.invariant.within);
      counted = one_more_counted ip_network c.args.networks.now c.loop-network.network-index item c.args.len
          c.loop-network.count c.from-count.result (c.loop-network.count + c.from-count.result)
          c.loop-network-test.true c.network-item.is c.loop-network.invariant.counted added refl;
    }
