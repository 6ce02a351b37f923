use Rattle.std.proofs.Common.{◌++◌, ◌∷◌, [], map, take, sym, ap, ◌∙◌, subst}
use Rattle.std.proofs.lemmas.List.{take_more, map_push}
use Rattle.ipnet_sets.specs.Images.{AreAppended}
use Rattle.ipnet_sets.proofs.ImageLaws.{appended_more}
use Rattle.ipnet_sets.proofs.image.stored.append_all.Goals as goal

pub loop-number-preserved : goal.loop-number-preserved
loop-number-preserved g c =
    let w = g.T.StoredNumber.width in
    let number = g.T.Number.number in
    let before = take c.loop-number.number-index c.args.numbers.now in
    let more = ap (map number) (take_more c.args.numbers.now c.loop-number.number-index c.number-item.result
    c.loop-number-test.true ∙ ap (λ z. before ++ z ∷ []) (sym c.number-item.is))
    ∙ map_push number before c.number-item.result in
    subst (λ ns. AreAppended w ns c.args.bytes.now.items c.append_to.new.bytes.items) (sym more)
    (appended_more w (map number before) (number c.number-item.result) c.args.bytes.now.items
    c.loop-number.bytes.items c.append_to.new.bytes.items c.loop-number.invariant c.in_ok-append_to.ensures)
