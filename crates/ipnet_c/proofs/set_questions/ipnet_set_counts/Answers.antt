-- The counts are the counts of the set of the image.
use Rattle.std.proofs.Common.{sym, subst}
use Rattle.ipnet_sets.specs.Images.{IsImage, IsImageOf}
use Rattle.ipnet_c.specs.SetReplies.{AreCountsOf}
use Rattle.ipnet_c.proofs.SetQuestionReplies.{counted}
use Rattle.ipnet_c.proofs.set_questions.ipnet_set_counts.Goals as goal

pub returns : goal.returns
returns c =
    let same = c.in-Ok.ensures in
    let (set, image, counts) = c.in-Ok-count_addresses.ensures in
    counted c.args.set.now c.args.counts.now c.copy_from_slice.new.self set c.if-counts-ne4.false
    (subst IsImage same c.in-Ok.set.image_of_a_set) (subst (λ z. IsImageOf z set) same image)
    (subst (AreCountsOf set) (sym c.copy_from_slice.ensures.after) counts)
