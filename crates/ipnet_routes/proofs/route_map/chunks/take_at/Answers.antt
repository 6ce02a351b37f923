-- The chunk is without the route, and so are all chunks; an empty chunk adds nothing to them.
use Rattle.std.proofs.Common.{◌≡◌, [], ◌<◌, length, sym, ap, ◌∙◌, subst, arith}
use Rattle.std.proofs.lemmas.List.{nil_from_length, get_or_default, get_or-set_same}
use Rattle.ipnet_routes.specs.RouteMapSteps.{all_of}
use Rattle.ipnet_routes.proofs.ChunkLaws.{chunk_only, taken_from_chunk, taken_with_chunk, read_in_chunk}
use Rattle.ipnet_routes.proofs.RouteMapLaws.{items}
use Rattle.ipnet_routes.proofs.route_map.chunks.take_at.Goals as goal

pub returns-then-len-eq0-clause-taken : goal.returns-then-len-eq0-clause-taken
returns-then-len-eq0-clause-taken g c =
    let cs = c.args.chunks.now.items in
    let i = c.args.place.chunk in
    let j = c.args.place.index in
    let chunk = c.index_mut.result.now in
    let at = sym c.index_mut.ensures.value in
    let left = c.remove-route.new.self in
    let inside : j < length chunk.items
    = subst (λ z. j < length z) (chunk_only items cs i chunk c.requires.chunk at) c.requires.index in
    let same : c.index.result.now ≡ left
    = c.index.ensures ∙ get_or-set_same cs i left c.index.result.now c.requires.chunk in
    let none : left.items ≡ []
    = nil_from_length left.items (ap (λ z. length z.items) (sym same) ∙ omega (arith, c.if-len-eq0.true)) in
    ap all_of c.remove-chunk.ensures.items
    ∙ taken_with_chunk items cs i chunk c.requires.chunk at left j inside c.remove-route.ensures.items none

pub returns-then-len-eq0-clause-route : goal.returns-then-len-eq0-clause-route
returns-then-len-eq0-clause-route g c d =
    let cs = c.args.chunks.now.items in
    let i = c.args.place.chunk in
    let j = c.args.place.index in
    let chunk = c.index_mut.result.now in
    let at = sym c.index_mut.ensures.value in
    let inside : j < length chunk.items
    = subst (λ z. j < length z) (chunk_only items cs i chunk c.requires.chunk at) c.requires.index in
    c.remove-route.ensures.value ∙ get_or_default chunk.items j c.remove-route.result d inside
    ∙ sym (read_in_chunk items cs i chunk c.requires.chunk at j d inside)

pub returns-else-len-eq0-clause-taken : goal.returns-else-len-eq0-clause-taken
returns-else-len-eq0-clause-taken g c =
    let cs = c.args.chunks.now.items in
    let i = c.args.place.chunk in
    let j = c.args.place.index in
    let chunk = c.index_mut.result.now in
    let at = sym c.index_mut.ensures.value in
    taken_from_chunk items cs i chunk c.requires.chunk at c.remove-route.new.self j
    (subst (λ z. j < length z) (chunk_only items cs i chunk c.requires.chunk at) c.requires.index)
    c.remove-route.ensures.items

pub returns-else-len-eq0-clause-route : goal.returns-else-len-eq0-clause-route
returns-else-len-eq0-clause-route g c d =
    let cs = c.args.chunks.now.items in
    let i = c.args.place.chunk in
    let j = c.args.place.index in
    let chunk = c.index_mut.result.now in
    let at = sym c.index_mut.ensures.value in
    let inside : j < length chunk.items
    = subst (λ z. j < length z) (chunk_only items cs i chunk c.requires.chunk at) c.requires.index in
    c.remove-route.ensures.value ∙ get_or_default chunk.items j c.remove-route.result d inside
    ∙ sym (read_in_chunk items cs i chunk c.requires.chunk at j d inside)
