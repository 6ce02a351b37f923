-- A network that does not contain the given one is itself enclosed by every earlier one that does. So none of these is
-- between it and its link.
use Rattle.std.proofs.Common.{◌-◌, get_or, Contains, arith}
use Rattle.std.proofs.lemmas.List.{length-map}
use Rattle.ipnet_base.proofs.ResultLaws.{true_gives, false_gives}
use Rattle.ipnet.specs.NetworkOf.{ip_network}
use Rattle.ipnet_routes.specs.Routes.{ip_networks}
use Rattle.ipnet_routes.proofs.RouteLaws.{value_at, searched_on, searched_found, searched_none}
use Rattle.ipnet_routes.proofs.routes.nearest.Goals as goal

pub returns-then-contains : goal.returns-then-contains
returns-then-contains g c =
    let list = c.args.routes.now in
    let place = c.loop-place.place in
    let d = c.index-routes-place.result in
    let size = length-map list (λ r. ip_network r.0) in
    searched_found (ip_networks list) (ip_network c.args.network.now) c.args.limit place
    (ip_network (get_or list (place - 1) d).0)
    (value_at (λ r. ip_network r.0) list (place - 1) d
    (omega (arith, c.loop-place.invariant.within, c.requires.within, c.requires.links.within))) (omega arith)
    (true_gives c.contains.result c.contains.ensures c.if-contains.true) c.loop-place.invariant

pub loop-place-preserved : goal.loop-place-preserved
loop-place-preserved g c =
    let list = c.args.routes.now in
    let place = c.loop-place.place in
    let d = c.index-routes-place.result in
    let e = ip_network (get_or list (place - 1) d).0 in
    let size = length-map list (λ r. ip_network r.0) in
    let at : Contains (ip_networks list) e = value_at (λ r. ip_network r.0) list (place - 1) d
    (omega (arith, c.loop-place.invariant.within, c.requires.within, c.requires.links.within)) in
    searched_on (ip_networks list) (ip_network c.args.network.now) c.args.limit c.requires.table place
    (get_or c.args.enclosing.now (place - 1) 0) e at (omega arith) c.requires.up_to
    (false_gives c.contains.result c.contains.ensures c.if-contains.false)
    (c.requires.links.nearest e at 0 (omega (arith, c.loop-place.invariant.within, c.requires.within)))
    c.loop-place.invariant

pub loop-place-smaller : goal.loop-place-smaller
loop-place-smaller g c =
    let list = c.args.routes.now in
    let place = c.loop-place.place in
    let d = c.index-routes-place.result in
    let e = ip_network (get_or list (place - 1) d).0 in
    let size = length-map list (λ r. ip_network r.0) in
    let at : Contains (ip_networks list) e = value_at (λ r. ip_network r.0) list (place - 1) d
    (omega (arith, c.loop-place.invariant.within, c.requires.within, c.requires.links.within)) in
    let link = c.requires.links.nearest e at 0
    (omega (arith, c.loop-place.invariant.within, c.requires.within)) in
    omega (arith, link.within)

pub returns : goal.returns
returns g c =
    searched_none (ip_networks c.args.routes.now) (ip_network c.args.network.now) c.args.limit c.loop-place.place
    (omega arith) c.loop-place.invariant
