-- The chunk has the route at its place, and so have all chunks.
use Rattle.std.proofs.Common.{◌≤◌, length, sym, subst}
use Rattle.ipnet_routes.proofs.ChunkLaws.{chunk_only, put_in_chunk, same_in_chunk, on_err}
use Rattle.ipnet_routes.proofs.RouteMapLaws.{items}
use Rattle.ipnet_routes.proofs.route_map.chunks.put_at.Goals as goal

pub returns-in_err-insert-clause-unchanged : goal.returns-in_err-insert-clause-unchanged
returns-in_err-insert-clause-unchanged g c =
    on_err c.from_residual.result
    (same_in_chunk items c.args.chunks.now.items c.args.place.chunk c.index_mut.result.now c.requires.chunk
    (sym c.index_mut.ensures.value) c.insert.new.self c.in_err-insert.ensures.items)

pub returns-clause-put : goal.returns-clause-put
returns-clause-put g c =
    let cs = c.args.chunks.now.items in
    let chunk = c.index_mut.result.now in
    put_in_chunk items cs c.args.place.chunk chunk c.requires.chunk (sym c.index_mut.ensures.value) c.insert.new.self
    c.args.place.index c.args.route
    (subst (λ z. c.args.place.index ≤ length z)
    (chunk_only items cs c.args.place.chunk chunk c.requires.chunk (sym c.index_mut.ensures.value)) c.requires.index)
    c.in_ok-insert.ensures.items
