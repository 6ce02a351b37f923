-- A divided chunk leaves the list of all routes as it is, so the place in it stays.
use Rattle.std.proofs.Common.{◌<◌, length, sym, subst}
use Rattle.ipnet_routes.proofs.route_map.chunks.put_in_order.Goals as goal

pub put_at-requires-2-clause-chunk : goal.put_at-requires-2-clause-chunk
put_at-requires-2-clause-chunk g c =
    subst (λ z. c.place_after_all-place.result.chunk < length z) c.as_slice.ensures.value
    (c.place_after_all-place.ensures.chunk
    (subst (λ z. 0 < length z) (sym c.as_slice.ensures.value) c.in_ok-split.ensures.some))
