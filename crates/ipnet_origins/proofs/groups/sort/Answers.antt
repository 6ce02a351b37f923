-- The payloads are sorted by their networks, and then by their ranks.
use Rattle.std.proofs.Common.{◌≡◌, rules, sym, arith}
use Rattle.std.proofs.lemmas.Fn.{always_returns_same}
use Rattle.ipnet_base.proofs.OrderLaws.{in_order_from_sort}
use Rattle.ipnet_origins.specs.Groups.{network_of, rank_of, AreInOrder}
use Rattle.ipnet_origins.proofs.OrderLaws.{in_order_from, sorted_law, ranks_rise, ranked_from}
use Rattle.ipnet_origins.proofs.groups.sort.Goals as goal

pub returns-clause-order : goal.returns-clause-order
returns-clause-order c =
    in_order_from c.sort_by_key.new.self.items (in_order_from_sort network_of _
    (λ x y before. sorted_law _ _ _ c.ip_nets_compare_by_network.ensures.compare (x.network, rank_of x)
    (y.network, rank_of y) before)
    c.sort_by_key.new.self.items
    (c.in_ok-sort_by_key.ensures.sorted (λ p. (p.network, rank_of p))
    (always_returns_same _ (λ a r. r ≡ (a.0.now.network, rank_of a.0.now)) _ (λ a r q k. search rules))))

pub returns-clause-ranked : goal.returns-clause-ranked
returns-clause-ranked c =
    let sorted = c.in_ok-sort_by_key.ensures.sorted (λ p. (p.network, rank_of p))
    (always_returns_same _ (λ a r. r ≡ (a.0.now.network, rank_of a.0.now)) _ (λ a r q k. search rules)) in
    let order : AreInOrder c.sort_by_key.new.self.items = in_order_from c.sort_by_key.new.self.items
    (in_order_from_sort network_of _
    (λ x y before. sorted_law _ _ _ c.ip_nets_compare_by_network.ensures.compare (x.network, rank_of x)
    (y.network, rank_of y) before)
    c.sort_by_key.new.self.items sorted) in
    ranked_from c.sort_by_key.new.self.items order
    (λ k d l same. ranks_rise _ _ _ c.ip_nets_compare_by_network.ensures.compare _ _ (sym same)
    (sorted k d (omega arith) l))
