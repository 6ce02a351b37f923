-- The reply is of the sets of the two images.
use Rattle.std.proofs.Common.{sym, subst}
use Rattle.ipnet_sets.specs.Images.{IsImage, IsImageOf}
use Rattle.ipnet_c.proofs.SetQuestionReplies.{subset_answered}
use Rattle.ipnet_c.proofs.set_questions.ipnet_set_is_subset.Goals as goal

pub returns-in-Ok-is_subset : goal.returns-in-Ok-is_subset
returns-in-Ok-is_subset c =
    let same = c.in-Ok.ensures in
    let same_other = c.in-Ok-from_bytes.ensures in
    subset_answered c.args.set.now c.args.other.now c.in-Ok-is_subset.answer c.from.result
    (subst IsImage same c.in-Ok.set.image_of_a_set) (subst IsImage same_other c.in-Ok-from_bytes.other.image_of_a_set)
    (λ s t image image_other. c.in-Ok-is_subset.ensures s t (subst (λ z. IsImageOf z s) (sym same) image)
    (subst (λ z. IsImageOf z t) (sym same_other) image_other)) c.from.ensures
