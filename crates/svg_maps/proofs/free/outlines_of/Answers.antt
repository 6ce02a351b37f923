use Rattle.std.proofs.Common.{◌≤◌, ◌+◌, All, false, true, map, sym, subst}
use Rattle.std.specs.List.{AllZip}
use Rattle.std.proofs.lemmas.List.Elements.{All-take}
use Rattle.ipnet_base.specs.Network.{IsSubnetOf}
use Rattle.ipnet.specs.NetworkOf.{ip_network}
use Rattle.ipnet_maps.proofs.PlaceLaws.{all_back}
use Rattle.ipnet_sets.specs.Members.{IsMember}
use Rattle.svg_maps.specs.FreeOutlines.{largest_first, IsFreeOutline}
use Rattle.svg_maps.proofs.FreeLaws.{all_inside, all_large, front_taken}
use Rattle.svg_maps.proofs.free.outlines_of.Goals as goal

pub free_outlines-requires-clause-inside : goal.free_outlines-requires-clause-inside
free_outlines-requires-clause-inside c =
    let frame = ip_network c.args.frame.now in
    let blocks = map ip_network c.args.free.now in
    let front = c.split_at.result.0.now in
    let chosen = front_taken 1500 ip_network c.in_ok-list.list.items front _ _ c.split_at.ensures.front
    c.as_slice-all.ensures.value c.min.ensures c.in_ok-list.ensures in
    all_back (λ n. IsSubnetOf n frame) ip_network front (subst (All (λ n. IsSubnetOf n frame)) (sym chosen)
    (All-take (λ n. IsSubnetOf n frame) 1500 (largest_first blocks frame.prefix_len (c.args.depth + 1))
    (all_inside (IsMember c.args.set.now) frame c.args.depth blocks c.requires.blocks)))

pub free_outlines-requires-clause-large : goal.free_outlines-requires-clause-large
free_outlines-requires-clause-large c =
    let frame = ip_network c.args.frame.now in
    let blocks = map ip_network c.args.free.now in
    let len = frame.prefix_len + c.args.depth in
    let front = c.split_at.result.0.now in
    let chosen = front_taken 1500 ip_network c.in_ok-list.list.items front _ _ c.split_at.ensures.front
    c.as_slice-all.ensures.value c.min.ensures c.in_ok-list.ensures in
    all_back (λ n. n.prefix_len ≤ len) ip_network front (subst (All (λ n. n.prefix_len ≤ len)) (sym chosen)
    (All-take (λ n. n.prefix_len ≤ len) 1500 (largest_first blocks frame.prefix_len (c.args.depth + 1))
    (all_large frame c.args.depth blocks)))

pub free_outlines-requires-2-clause-inside : goal.free_outlines-requires-2-clause-inside
free_outlines-requires-2-clause-inside c =
    let frame = ip_network c.args.frame.now in
    let blocks = map ip_network c.args.free.now in
    let front = c.split_at-2.result.0.now in
    let chosen = front_taken 1 ip_network c.in_ok-list.list.items front _ _ c.split_at-2.ensures.front
    c.as_slice-all.ensures.value c.min-2.ensures c.in_ok-list.ensures in
    all_back (λ n. IsSubnetOf n frame) ip_network front (subst (All (λ n. IsSubnetOf n frame)) (sym chosen)
    (All-take (λ n. IsSubnetOf n frame) 1 (largest_first blocks frame.prefix_len (c.args.depth + 1))
    (all_inside (IsMember c.args.set.now) frame c.args.depth blocks c.requires.blocks)))

pub free_outlines-requires-2-clause-large : goal.free_outlines-requires-2-clause-large
free_outlines-requires-2-clause-large c =
    let frame = ip_network c.args.frame.now in
    let blocks = map ip_network c.args.free.now in
    let len = frame.prefix_len + c.args.depth in
    let front = c.split_at-2.result.0.now in
    let chosen = front_taken 1 ip_network c.in_ok-list.list.items front _ _ c.split_at-2.ensures.front
    c.as_slice-all.ensures.value c.min-2.ensures c.in_ok-list.ensures in
    all_back (λ n. n.prefix_len ≤ len) ip_network front (subst (All (λ n. n.prefix_len ≤ len)) (sym chosen)
    (All-take (λ n. n.prefix_len ≤ len) 1 (largest_first blocks frame.prefix_len (c.args.depth + 1))
    (all_large frame c.args.depth blocks)))

pub returns : goal.returns
returns c =
    let frame = ip_network c.args.frame.now in
    let depth = c.args.depth in
    let blocks = map ip_network c.args.free.now in
    let front = c.split_at.result.0.now in
    let first = c.split_at-2.result.0.now in
    let chosen = front_taken 1500 ip_network c.in_ok-list.list.items front _ _ c.split_at.ensures.front
    c.as_slice-all.ensures.value c.min.ensures c.in_ok-list.ensures in
    let one = front_taken 1 ip_network c.in_ok-list.list.items first _ _ c.split_at-2.ensures.front
    c.as_slice-all.ensures.value c.min-2.ensures c.in_ok-list.ensures in record {
      blocks = blocks;
      are_blocks = c.requires.blocks;
      each_outline = c.in_ok-outlines.outlines.items;
      each = subst (λ z. AllZip (IsFreeOutline false frame depth) z c.in_ok-outlines.outlines.items) chosen
          c.in_ok-outlines.ensures;
      largest_outline = c.in_ok-largest.largest.items;
      largest = subst (λ z. AllZip (IsFreeOutline true frame depth) z c.in_ok-largest.largest.items) one
          c.in_ok-largest.ensures;
      all = c.in_ok-append.ensures.items;
    }
