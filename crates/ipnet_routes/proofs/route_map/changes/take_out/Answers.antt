-- The route before the place is the one of the network.
use Rattle.std.proofs.Common.{ap, arith}
use Rattle.ipnet.specs.NetworkOf.{ip_network}
use Rattle.ipnet_routes.specs.RouteMapSteps.{all_of, position_of}
use Rattle.ipnet_routes.proofs.KnownLengthLaws.{known_taken}
use Rattle.ipnet_routes.proofs.RouteMapChanges.{taken_out, value_of}
use Rattle.ipnet_routes.proofs.route_map.changes.take_out.Goals as goal

pub returns-clause-table : goal.returns-clause-table
returns-clause-table g c =
    let cs = c.args.chunks.now.items in
    let place = c.args.place in
    let before = c.before-2.result in
    let same = ap (λ z. position_of cs z before.index) c.before-2.ensures.chunk in
    (taken_out (all_of cs) c.requires.table (ip_network c.args.network.now) (position_of cs place.chunk place.index)
    (position_of cs before.chunk before.index) c.requires.place c.requires.has
    (omega (arith, same, c.before-2.ensures.index)) (all_of c.take_at.new.chunks.items)
    c.take_at.ensures.taken).0

pub returns-clause-taken : goal.returns-clause-taken
returns-clause-taken g c =
    let cs = c.args.chunks.now.items in
    let place = c.args.place in
    let before = c.before-2.result in
    let same = ap (λ z. position_of cs z before.index) c.before-2.ensures.chunk in
    (taken_out (all_of cs) c.requires.table (ip_network c.args.network.now) (position_of cs place.chunk place.index)
    (position_of cs before.chunk before.index) c.requires.place c.requires.has
    (omega (arith, same, c.before-2.ensures.index)) (all_of c.take_at.new.chunks.items)
    c.take_at.ensures.taken).1

pub returns-clause-value : goal.returns-clause-value
returns-clause-value g c =
    let cs = c.args.chunks.now.items in
    let place = c.args.place in
    let before = c.before-2.result in
    let same = ap (λ z. position_of cs z before.index) c.before-2.ensures.chunk in
    value_of (all_of cs) c.requires.table (ip_network c.args.network.now) (position_of cs place.chunk place.index)
    (position_of cs before.chunk before.index) c.requires.place c.requires.has
    (omega (arith, same, c.before-2.ensures.index)) c.take_at.result.1 (λ d. ap (λ z. z.1) (c.take_at.ensures.route d))

pub returns-clause-known : goal.returns-clause-known
returns-clause-known g c masks width known =
    known_taken masks width (all_of c.args.chunks.now.items) (all_of c.take_at.new.chunks.items)
    (ip_network c.args.network.now) (returns-clause-taken g c) known
