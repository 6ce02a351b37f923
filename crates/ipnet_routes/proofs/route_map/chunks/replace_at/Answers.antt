-- The chunk has the new value at its place, and so have all chunks.
use Rattle.std.proofs.Common.{◌≡◌, ◌<◌, length, get_or, set, sym, ap, ap₂, ◌∙◌, subst}
use Rattle.std.specs.Vec.{with_item}
use Rattle.std.proofs.lemmas.List.{get_or_default}
use Rattle.ipnet_routes.specs.RouteMapSteps.{all_of, position_of}
use Rattle.ipnet_routes.proofs.ChunkLaws.{chunk_only, set_in_chunk, read_in_chunk}
use Rattle.ipnet_routes.proofs.RouteMapLaws.{items}
use Rattle.ipnet_routes.proofs.route_map.chunks.replace_at.Goals as goal

pub returns-clause-set : goal.returns-clause-set
returns-clause-set g c d =
    let cs = c.args.chunks.now.items in
    let i = c.args.place.chunk in
    let j = c.args.place.index in
    let chunk = c.index_mut.result.now in
    let at = sym c.index_mut.ensures.value in
    let y = c.index_mut-2.result.now in
    let inside : j < length chunk.items
    = subst (λ z. j < length z) (chunk_only items cs i chunk c.requires.chunk at) c.requires.index in
    let read : y ≡ get_or (all_of cs) (position_of cs i j) d
    = c.index_mut-2.ensures.value ∙ get_or_default chunk.items j y d inside
    ∙ sym (read_in_chunk items cs i chunk c.requires.chunk at j d inside) in
    set_in_chunk items cs i chunk c.requires.chunk at (with_item chunk j (y.0, c.replace.new.dest)) j
    ((get_or (all_of cs) (position_of cs i j) d).0, c.args.value) inside
    (ap₂ (λ a b. set chunk.items j (a, b)) (ap (λ z. z.0) read) c.replace.ensures.after)

pub returns-clause-value : goal.returns-clause-value
returns-clause-value g c d =
    let cs = c.args.chunks.now.items in
    let i = c.args.place.chunk in
    let j = c.args.place.index in
    let chunk = c.index_mut.result.now in
    let at = sym c.index_mut.ensures.value in
    let y = c.index_mut-2.result.now in
    let inside : j < length chunk.items
    = subst (λ z. j < length z) (chunk_only items cs i chunk c.requires.chunk at) c.requires.index in
    let read : y ≡ get_or (all_of cs) (position_of cs i j) d
    = c.index_mut-2.ensures.value ∙ get_or_default chunk.items j y d inside
    ∙ sym (read_in_chunk items cs i chunk c.requires.chunk at j d inside) in
    c.replace.ensures.value ∙ ap (λ z. z.1) read
