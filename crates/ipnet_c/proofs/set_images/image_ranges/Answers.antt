-- The text has the ranges of the set of the image.
use Rattle.std.proofs.Common.{string_bytes}
use Rattle.std.proofs.lemmas.Result.{IfOk-weaker}
use Rattle.ipnet_sets.specs.Members.{IsMember}
use Rattle.ipnet_lists.specs.SetLines.{AreRangeLines}
use Rattle.ipnet_c.specs.SetReplies.{IsRangesOfImage}
use Rattle.ipnet_c.proofs.set_images.image_ranges.Goals as goal

pub returns : goal.returns
returns c =
    IfOk-weaker c.range_lines.result
    (λ text. AreRangeLines (IsMember c.in_ok-first.first) (string_bytes text))
    (λ text. IsRangesOfImage c.args.set.image.bytes.now (string_bytes text))
    (λ text h. record { first = c.in_ok-first.first; first_image = c.in_ok-first.ensures; ranges = h })
    c.range_lines.ensures
