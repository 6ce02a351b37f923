-- The route before the place is the one of the network.
use Rattle.std.proofs.Common.{ap, arith}
use Rattle.ipnet.specs.NetworkOf.{ip_network}
use Rattle.ipnet_routes.specs.RouteMapSteps.{all_of, position_of}
use Rattle.ipnet_routes.proofs.KnownLengthLaws.{known_put}
use Rattle.ipnet_routes.proofs.RouteMapChanges.{exchanged, value_of}
use Rattle.ipnet_routes.proofs.route_map.changes.exchange.Goals as goal

pub returns-clause-table : goal.returns-clause-table
returns-clause-table g c =
    let cs = c.args.chunks.now.items in
    let place = c.args.place in
    let before = c.before-2.result in
    let same = ap (λ z. position_of cs z before.index) c.before-2.ensures.chunk in
    (exchanged (all_of cs) c.requires.table (ip_network c.args.network.now) (position_of cs place.chunk place.index)
    (position_of cs before.chunk before.index) c.requires.place c.requires.has
    (omega (arith, same, c.before-2.ensures.index)) (all_of c.replace_at.new.chunks.items) c.args.value
    c.replace_at.ensures.set).0

pub returns-clause-put : goal.returns-clause-put
returns-clause-put g c =
    let cs = c.args.chunks.now.items in
    let place = c.args.place in
    let before = c.before-2.result in
    let same = ap (λ z. position_of cs z before.index) c.before-2.ensures.chunk in
    (exchanged (all_of cs) c.requires.table (ip_network c.args.network.now) (position_of cs place.chunk place.index)
    (position_of cs before.chunk before.index) c.requires.place c.requires.has
    (omega (arith, same, c.before-2.ensures.index)) (all_of c.replace_at.new.chunks.items) c.args.value
    c.replace_at.ensures.set).1

pub returns-clause-size : goal.returns-clause-size
returns-clause-size g c =
    let cs = c.args.chunks.now.items in
    let place = c.args.place in
    let before = c.before-2.result in
    let same = ap (λ z. position_of cs z before.index) c.before-2.ensures.chunk in
    (exchanged (all_of cs) c.requires.table (ip_network c.args.network.now) (position_of cs place.chunk place.index)
    (position_of cs before.chunk before.index) c.requires.place c.requires.has
    (omega (arith, same, c.before-2.ensures.index)) (all_of c.replace_at.new.chunks.items) c.args.value
    c.replace_at.ensures.set).2

pub returns-clause-value : goal.returns-clause-value
returns-clause-value g c =
    let cs = c.args.chunks.now.items in
    let place = c.args.place in
    let before = c.before-2.result in
    let same = ap (λ z. position_of cs z before.index) c.before-2.ensures.chunk in
    value_of (all_of cs) c.requires.table (ip_network c.args.network.now) (position_of cs place.chunk place.index)
    (position_of cs before.chunk before.index) c.requires.place c.requires.has
    (omega (arith, same, c.before-2.ensures.index)) c.replace_at.result c.replace_at.ensures.value

pub returns-clause-known : goal.returns-clause-known
returns-clause-known g c masks width known =
    known_put masks width (all_of c.args.chunks.now.items) (all_of c.replace_at.new.chunks.items)
    (ip_network c.args.network.now) c.args.value (returns-clause-put g c) known
    (known.each (ip_network c.args.network.now) c.requires.has)
