use Rattle.std.proofs.Common.{◌<◌, ◌≤◌, length, ap, ap₂, sym, ◌∙◌, ◌++◌, ◌∷◌, [], map, arith}
use Rattle.std.proofs.lemmas.List.{take_more, take_all, map_push}
use Rattle.ipnet_sets.specs.Images.{numbers_from}
use Rattle.ipnet_sets.proofs.ImageLaws.{length-numbers_from, at_numbers}
use Rattle.ipnet_sets.proofs.image.stored.read_all.Goals as goal

pub loop-index-preserved : goal.loop-index-preserved
loop-index-preserved g c =
    let w = g.T.StoredNumber.width in
    let number = g.T.Number.number in
    let ns = numbers_from w c.args.place.count c.args.bytes.now c.args.place.start in
    let size = length-numbers_from w c.args.place.count c.args.bytes.now c.args.place.start in
    let l : c.loop-index.index < length ns = omega (arith, size) in
    ap (map number) c.in_ok-push.ensures.items
    ∙ map_push number c.loop-index.numbers.items c.read.result
    ∙ ap₂ (λ xs x. xs ++ x ∷ []) c.loop-index.invariant (c.read.ensures.value
    ∙ sym (at_numbers w c.args.place.count c.args.bytes.now c.args.place.start c.loop-index.index 0 (omega arith)))
    ∙ sym (take_more ns c.loop-index.index 0 l)

pub returns : goal.returns
returns g c =
    let w = g.T.StoredNumber.width in
    let ns = numbers_from w c.args.place.count c.args.bytes.now c.args.place.start in
    let size = length-numbers_from w c.args.place.count c.args.bytes.now c.args.place.start in
    let end : length ns ≤ c.loop-index.index = omega (arith, size) in
    c.loop-index.invariant ∙ take_all c.loop-index.index ns end
