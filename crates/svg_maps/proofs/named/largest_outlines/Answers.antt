use Rattle.std.proofs.Common.{◌≤◌, ◌+◌, All, map, take, sym, subst}
use Rattle.std.specs.List.{AllZip}
use Rattle.std.proofs.lemmas.List.Elements.{All-take}
use Rattle.std.proofs.lemmas.Result.{IfOk-weaker}
use Rattle.ipnet_base.specs.Network.{IsSubnetOf}
use Rattle.ipnet.specs.NetworkOf.{ip_network}
use Rattle.ipnet_maps.proofs.PlaceLaws.{all_back}
use Rattle.ipnet_routes.specs.RoutesOf.{routes_of}
use Rattle.svg_maps.specs.FreeOutlines.{largest_first}
use Rattle.svg_maps.specs.NamedOutlines.{IsNamedOutline, HasName}
use Rattle.svg_maps.proofs.FreeLaws.{all_chosen, all_large, front_taken}
use Rattle.svg_maps.proofs.named.largest_outlines.Goals as goal

pub outlines_in_order-requires-clause-inside : goal.outlines_in_order-requires-clause-inside
outlines_in_order-requires-clause-inside c =
    let frame = ip_network c.args.frame.now in
    let networks = map ip_network c.args.networks.now in
    let front = c.split_at.result.0.now in
    let chosen = front_taken 1500 ip_network c.in_ok-list.list.items front _ _ c.split_at.ensures.front
    c.as_slice-all.ensures.value c.min.ensures c.in_ok-list.ensures in
    all_back (λ n. IsSubnetOf n frame) ip_network front (subst (All (λ n. IsSubnetOf n frame)) (sym chosen)
    (All-take (λ n. IsSubnetOf n frame) 1500 (largest_first networks frame.prefix_len (c.args.depth + 1))
    (all_chosen (λ n. IsSubnetOf n frame) networks frame.prefix_len (c.args.depth + 1) c.requires.inside)))

pub outlines_in_order-requires-clause-large : goal.outlines_in_order-requires-clause-large
outlines_in_order-requires-clause-large c =
    let frame = ip_network c.args.frame.now in
    let networks = map ip_network c.args.networks.now in
    let len = frame.prefix_len + c.args.depth in
    let front = c.split_at.result.0.now in
    let chosen = front_taken 1500 ip_network c.in_ok-list.list.items front _ _ c.split_at.ensures.front
    c.as_slice-all.ensures.value c.min.ensures c.in_ok-list.ensures in
    all_back (λ n. n.prefix_len ≤ len) ip_network front (subst (All (λ n. n.prefix_len ≤ len)) (sym chosen)
    (All-take (λ n. n.prefix_len ≤ len) 1500 (largest_first networks frame.prefix_len (c.args.depth + 1))
    (all_large frame c.args.depth networks)))

pub outlines_in_order-requires-clause-named : goal.outlines_in_order-requires-clause-named
outlines_in_order-requires-clause-named c =
    let frame = ip_network c.args.frame.now in
    let names = routes_of c.args.names.now in
    let networks = map ip_network c.args.networks.now in
    let front = c.split_at.result.0.now in
    let chosen = front_taken 1500 ip_network c.in_ok-list.list.items front _ _ c.split_at.ensures.front
    c.as_slice-all.ensures.value c.min.ensures c.in_ok-list.ensures in
    all_back (HasName names) ip_network front (subst (All (HasName names)) (sym chosen)
    (All-take (HasName names) 1500 (largest_first networks frame.prefix_len (c.args.depth + 1))
    (all_chosen (HasName names) networks frame.prefix_len (c.args.depth + 1) c.requires.named)))

pub returns : goal.returns
returns c =
    let frame = ip_network c.args.frame.now in
    let names = routes_of c.args.names.now in
    let depth = c.args.depth in
    let networks = map ip_network c.args.networks.now in
    let front = c.split_at.result.0.now in
    let chosen = front_taken 1500 ip_network c.in_ok-list.list.items front _ _ c.split_at.ensures.front
    c.as_slice-all.ensures.value c.min.ensures c.in_ok-list.ensures in
    IfOk-weaker c.outlines_in_order.result
    (λ list. AllZip (IsNamedOutline names frame depth) (map ip_network front) list.items)
    (λ list. AllZip (IsNamedOutline names frame depth)
    (take 1500 (largest_first networks frame.prefix_len (depth + 1))) list.items)
    (λ list each. subst (λ z. AllZip (IsNamedOutline names frame depth) z list.items) chosen each)
    c.outlines_in_order.ensures
