-- The two chunks have the routes of the one, and each has some.
use Rattle.std.proofs.Common.{◌≡◌, ◌++◌, ◌+◌, ◌<◌, length, sym, ap, ap₂, ◌∙◌, subst, arith}
use Rattle.std.proofs.lemmas.List.{take-append-drop, length-take-le, length-drop, get_or_default}
use Rattle.ipnet_routes.specs.RouteMapSteps.{all_of, AreFilled}
use Rattle.ipnet_routes.proofs.ChunkLaws.{split_chunk}
use Rattle.ipnet_routes.proofs.RouteMapLaws.{items}
use Rattle.ipnet_routes.proofs.RouteMapChanges.{filled_with}
use Rattle.ipnet_routes.proofs.route_map.chunks.split.Goals as goal

pub returns-clause-filled : goal.returns-clause-filled
returns-clause-filled g c =
    let rs = c.reserve.new.self.items in
    let i = c.args.chunk in
    let kept = c.split_off.new.self in
    let others = c.in_ok-others.others in
    let chunk = c.index_mut.result.now in
    let same = c.in_ok-reserve.ensures.items in
    let inside : i < length rs = omega (arith, c.requires.chunk, ap length same) in
    let read : c.index.result.now ≡ chunk
    = c.index.ensures ∙ get_or_default rs i c.index.result.now chunk inside ∙ sym c.index_mut.ensures.value in
    let size = ap (λ z. length z.items) read in
    subst AreFilled (sym c.in-Ok.ensures.items) (filled_with rs i (i + 1) kept others
    (subst (λ z. AreFilled z) (sym same) c.requires.filled)
    (omega (
      arith,
      ap length c.in_ok-others.ensures.items,
      length-take-le c.kept_of-kept.result chunk.items (omega (arith, size)),
      size,
      c.kept_of-kept.ensures.some,
    ))
    (omega (
      arith,
      ap length c.in_ok-others.ensures.tail,
      length-drop c.kept_of-kept.result chunk.items,
      size,
      c.kept_of-kept.ensures.not_all,
    )))

pub returns-clause-unchanged : goal.returns-clause-unchanged
returns-clause-unchanged g c =
    let rs = c.reserve.new.self.items in
    let i = c.args.chunk in
    let kept = c.split_off.new.self in
    let others = c.in_ok-others.others in
    let chunk = c.index_mut.result.now in
    let same = c.in_ok-reserve.ensures.items in
    ap all_of c.in-Ok.ensures.items
    ∙ split_chunk items rs i chunk (omega (arith, c.requires.chunk, ap length same)) (sym c.index_mut.ensures.value)
    kept others
    (sym (take-append-drop c.kept_of-kept.result chunk.items)
    ∙ ap₂ ◌++◌ (sym c.in_ok-others.ensures.items) (sym c.in_ok-others.ensures.tail))
    ∙ ap all_of same
