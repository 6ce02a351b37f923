use Rattle.std.proofs.Common.{sym, subst}
use Rattle.ipnet.specs.NetworkOf.{ip_network}
use Rattle.ipnet_bars.proofs.PartLaws.{one_value_more}
use Rattle.ipnet_routes.specs.RoutesOf.{routes_of}
use Rattle.svg_maps.specs.NamedOutlines.{HasName, IsNamedOutline}
use Rattle.svg_maps.proofs.named.outlines_in_order.Goals as goal

pub loop-network-preserved : goal.loop-network-preserved
loop-network-preserved c =
    one_value_more (IsNamedOutline (routes_of c.args.names.now) (ip_network c.args.frame.now) c.args.depth) ip_network
    c.args.networks.now c.loop-network.network-index c.network-item.result c.in_ok-outline.outline
    c.loop-network.outlines.items c.push.new.self.items c.loop-network-test.true c.network-item.is
    c.loop-network.invariant c.in_ok-outline.ensures c.in_ok-push.ensures.items

pub named_outline-requires-clause-named : goal.named_outline-requires-clause-named
named_outline-requires-clause-named c =
    subst (λ network. HasName (routes_of c.args.names.now) (ip_network network)) (sym c.network-item.is)
    (c.requires.named c.loop-network.network-index c.network-item.result c.loop-network-test.true)
