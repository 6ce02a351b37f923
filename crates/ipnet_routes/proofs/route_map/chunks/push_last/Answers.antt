-- The last chunk ends the list of all routes.
use Rattle.std.proofs.Common.{◌-◌, sym, arith}
use Rattle.ipnet_routes.proofs.ChunkLaws.{on_err, same_in_chunk, push_in_last}
use Rattle.ipnet_routes.proofs.RouteMapLaws.{items}
use Rattle.ipnet_routes.proofs.route_map.chunks.push_last.Goals as goal

pub returns-in_err-push-clause-unchanged : goal.returns-in_err-push-clause-unchanged
returns-in_err-push-clause-unchanged g c =
    on_err c.from_residual.result
    (same_in_chunk items c.args.chunks.now.items (c.len-count.result - 1) c.index_mut.result.now (omega arith)
    (sym c.index_mut.ensures.value) c.push.new.self c.in_err-push.ensures.items)

pub returns-then-len-lt-FILLED-clause-pushed : goal.returns-then-len-lt-FILLED-clause-pushed
returns-then-len-lt-FILLED-clause-pushed g c =
    push_in_last items c.args.chunks.now.items (c.len-count.result - 1) c.index_mut.result.now (omega arith)
    (sym c.index_mut.ensures.value) c.push.new.self c.args.route (omega arith) c.in_ok-push.ensures.items
