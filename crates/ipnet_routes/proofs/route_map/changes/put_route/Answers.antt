-- The route is between the routes that come before it and the routes that come after it.
use Rattle.std.proofs.Common.{sym, subst}
use Rattle.ipnet.specs.NetworkOf.{ip_network}
use Rattle.ipnet_routes.specs.Routes.{ip_networks}
use Rattle.ipnet_routes.specs.RouteMapSteps.{all_of}
use Rattle.ipnet_routes.specs.RouteLengths.{AreKnown}
use Rattle.ipnet_routes.proofs.KnownLengthLaws.{known_put}
use Rattle.ipnet_routes.proofs.RouteMapChanges.{table_put, routes_put}
use Rattle.ipnet_routes.proofs.route_map.changes.put_route.Goals as goal

pub returns-clause-table : goal.returns-clause-table
returns-clause-table g c =
    let put = c.in_ok-put_in_order.ensures.put in
    table_put (all_of c.args.chunks.now.items) (all_of c.put_in_order.new.chunks.items) c.args.route put.place
    put.inserted c.requires.table c.requires.truncated put.after c.requires.new

pub returns-clause-put : goal.returns-clause-put
returns-clause-put g c =
    let put = c.in_ok-put_in_order.ensures.put in
    routes_put (all_of c.args.chunks.now.items) (all_of c.put_in_order.new.chunks.items) c.args.route put.place
    put.inserted c.requires.new

pub returns-clause-known : goal.returns-clause-known
returns-clause-known g c masks width known here =
    known_put masks width (all_of c.args.chunks.now.items) (all_of c.put_in_order.new.chunks.items)
    (ip_network c.args.route.0) c.args.route.1 (returns-clause-put g c) known here

pub returns-in_err-put_in_order-clause-known : goal.returns-in_err-put_in_order-clause-known
returns-in_err-put_in_order-clause-known g c masks width known here =
    subst (λ z. AreKnown masks width (ip_networks z)) (sym c.in_err-put_in_order.ensures.unchanged) known
