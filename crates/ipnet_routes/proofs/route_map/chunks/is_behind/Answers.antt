-- If the chunks have the network, its route is the one before the place after it.
use Rattle.std.proofs.Common.{◌≡◌, ◌<◌, ◌≤◌, true, false, length, arith, sym, subst}
use Rattle.ipnet.specs.NetworkOf.{ip_network}
use Rattle.ipnet_routes.specs.RouteMapSteps.{all_of, position_of}
use Rattle.ipnet_routes.proofs.ChunkLaws.{chunk_only}
use Rattle.ipnet_routes.proofs.RouteLaws.{found_network}
use Rattle.ipnet_routes.proofs.RouteMapLaws.{items, chunk_inside, behind_is, behind_has}
use Rattle.ipnet_routes.proofs.route_map.chunks.is_behind.Goals as goal

pub returns-then-place-eq0-clause-has : goal.returns-then-place-eq0-clause-has
returns-then-place-eq0-clause-has g c = (
  λ e. let apart : false ≡ true = e in absurd (cc),
  λ has. absurd (omega (
    arith,
    c.if-place-eq0.true,
    c.requires.start c.if-place-eq0.true,
    (found_network (all_of c.args.chunks.now) c.requires.table (ip_network c.args.network.now)
        (position_of c.args.chunks.now c.args.place.chunk c.args.place.index) c.requires.place has).0,
  )),
)

pub returns-clause-has : goal.returns-clause-has
returns-clause-has g c =
    let cs = c.args.chunks.now in
    let n = ip_network c.args.network.now in
    let i = c.args.place.chunk in
    let j = c.args.place.index in
    let chunk = c.index-chunks-place.result in
    let route = c.index.result.now in
    let some : 0 < j = omega (arith, c.if-place-eq0.false) in
    let inside : i < length cs = chunk_inside cs i (omega (arith, some, c.requires.index)) in
    let le : j ≤ length chunk.items
    = subst (λ z. j ≤ length z) (chunk_only items cs i chunk inside (sym c.index-chunks-place.is)) c.requires.index in (
      λ yes. behind_has cs c.requires.table c.requires.filled i chunk inside (sym c.index-chunks-place.is) n j some le
          route
          c.index.ensures (c.is_same.ensures.0 yes),
      λ has. c.is_same.ensures.1 (behind_is cs c.requires.table c.requires.filled i chunk inside
          (sym c.index-chunks-place.is) n j some
          le c.requires.place route c.index.ensures has),
    )
