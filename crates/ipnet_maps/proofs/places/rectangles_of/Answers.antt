use Rattle.std.proofs.Common.{◌+◌, ◌≤◌, ◌↔◌, All, Any, map, subst, sym}
use Rattle.std.specs.List.{AllZip}
use Rattle.std.proofs.lemmas.Result.{IfOk-weaker}
use Rattle.ipnet_base.specs.Address.{Address}
use Rattle.ipnet_base.specs.Network.{InBlock, IsSubnetOf}
use Rattle.ipnet_base.proofs.ListLaws.{all_from_members}
use Rattle.ipnet.specs.NetLaws.{ip_valid}
use Rattle.ipnet.specs.NetworkOf.{ip_network}
use Rattle.ipnet_sets.specs.Members.{IsMember}
use Rattle.ipnet_sets.proofs.SetEqualLaws.{member_or_not}
use Rattle.ipnet_maps.specs.Places.{IsRectangleIn, IsDrawnIn}
use Rattle.ipnet_maps.proofs.PlaceLaws.{drawn_exactly, block_is_large, all_back}
use Rattle.ipnet_maps.proofs.places.rectangles_of.Goals as goal

pub rectangles_in-requires-clause-inside : goal.rectangles_in-requires-clause-inside
rectangles_in-requires-clause-inside c =
    let frame = ip_network c.args.frame.now in
    let items = c.in_ok-networks.networks.items in
    subst (All (λ n. IsSubnetOf (ip_network n) frame)) (sym c.as_slice.ensures.value)
    (all_back (λ n. IsSubnetOf n frame) ip_network items
    (all_from_members (λ n. IsSubnetOf n frame) (map ip_network items)
    (λ n m x a. c.requires.inside x (((c.in_ok-networks.ensures.blocks.members n).0 m).inside.within x a))))

pub rectangles_in-requires-clause-large : goal.rectangles_in-requires-clause-large
rectangles_in-requires-clause-large c =
    let len = (ip_network c.args.frame.now).prefix_len + c.args.depth in
    let items = c.in_ok-networks.networks.items in
    subst (All (λ n. (ip_network n).prefix_len ≤ len)) (sym c.as_slice.ensures.value)
    (all_back (λ n. n.prefix_len ≤ len) ip_network items
    (all_from_members (λ n. n.prefix_len ≤ len) (map ip_network items)
    (λ n m. block_is_large (IsMember c.args.cells.now) len n c.requires.whole
    ((c.in_ok-networks.ensures.blocks.members n).0 m))))

pub returns-clause-cells : goal.returns-clause-cells
returns-clause-cells c =
    let frame = ip_network c.args.frame.now in
    let depth = c.args.depth in
    let cells = c.args.cells.now in
    let items = c.in_ok-networks.networks.items in
    IfOk-weaker c.rectangles_in.result
    (λ list. AllZip (IsRectangleIn frame depth) (map ip_network c.as_slice.result.now) list.items)
    (λ list. (x : Address) → InBlock frame x → IsMember cells x ↔ Any (IsDrawnIn frame depth x) list.items)
    (λ list each x inside. drawn_exactly frame depth (ip_valid c.args.frame.now) c.requires.fits (IsMember cells)
    (member_or_not cells) (λ y m. m.fits) c.requires.inside c.requires.whole (map ip_network items) list.items
    c.in_ok-networks.ensures.blocks
    (subst (λ z. AllZip (IsRectangleIn frame depth) (map ip_network z) list.items) c.as_slice.ensures.value each) x
    inside) c.rectangles_in.ensures
