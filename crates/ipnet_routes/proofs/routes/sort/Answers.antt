-- The sort is stable by the networks, so the routes of each network stay in their order, and the last of them stays the
-- last.
use Rattle.std.proofs.Common.{◌≡◌, rules, sym}
use Rattle.std.proofs.lemmas.Fn.{always_returns_same}
use Rattle.ipnet_base.proofs.OrderLaws.{in_order_from_sort}
use Rattle.ipnet.specs.NetworkOf.{ip_network}
use Rattle.ipnet_routes.proofs.RouteLaws.{before_is_less}
use Rattle.ipnet_routes.proofs.RouteOrderLaws.{tied_by_network, latest_kept}
use Rattle.ipnet_routes.proofs.routes.sort.Goals as goal

pub returns-clause-order : goal.returns-clause-order
returns-clause-order g c =
    let compare = c.ip_nets_compare_by_network.ensures.compare in
    in_order_from_sort (λ r. ip_network r.0) _
    (λ x y before. before_is_less x.0 y.0 (compare x.0 y.0) before) c.sort_by_key.new.self.items
    (c.in_ok-sort_by_key.ensures.sorted (λ r. r.0)
    (always_returns_same _ (λ a r. r ≡ a.0.now.0) _ (λ a r q k. search rules)))

pub returns-clause-latest : goal.returns-clause-latest
returns-clause-latest g c q =
    let compare = c.ip_nets_compare_by_network.ensures.compare in
    let old = c.args.routes.now.items in
    let new = c.sort_by_key.new.self.items in
    let stable = c.in_ok-sort_by_key.ensures.stable (λ r. r.0)
    (always_returns_same _ (λ a r. r ≡ a.0.now.0) _ (λ a r q k. search rules)) in (
      latest_kept _ (tied_by_network compare) new old (λ r. sym (stable r)) q,
      latest_kept _ (tied_by_network compare) old new stable q,
    )
