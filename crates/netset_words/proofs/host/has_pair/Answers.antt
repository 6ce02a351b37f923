use Rattle.std.proofs.Common.{◌≡◌, ◌+◌, length, get_or, ap, ◌∙◌, arith, ◌∷◌}
use Rattle.std.proofs.lemmas.List.{get_or-append-add, length-append}
use Rattle.std.proofs.Math.Seq.{get_or-append_seam}
use Rattle.netset_words.proofs.host.has_pair.Goals as goal

pub returns : goal.returns
returns c = λ off front back is.
    let text = c.args.text.now in
    let size : length text ≡ length front + length (58 ∷ 58 ∷ back) =
    ap length is ∙ length-append front (58 ∷ 58 ∷ back) in
    c.loop-index.invariant (length front) (omega (arith, size, c.loop-index-test.false))
    (ap (λ z. get_or z (length front) 0) is ∙ get_or-append_seam front 58 (58 ∷ back) 0)
    (ap (λ z. get_or z (length front + 1) 0) is ∙ get_or-append-add front (58 ∷ 58 ∷ back) 1 0)
