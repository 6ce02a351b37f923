-- The text has the networks of the set of the image.
use Rattle.std.proofs.Common.{string_bytes}
use Rattle.std.proofs.lemmas.Result.{IfOk-weaker}
use Rattle.ipnet_sets.specs.Members.{IsMember}
use Rattle.ipnet_lists.specs.SetLines.{AreNetworkLines}
use Rattle.ipnet_c.specs.SetReplies.{IsTextOfImage}
use Rattle.ipnet_c.proofs.set_images.image_text.Goals as goal

pub returns : goal.returns
returns c =
    IfOk-weaker c.network_lines.result (λ text. AreNetworkLines (IsMember c.in_ok-first.first) (string_bytes text))
    (λ text. IsTextOfImage c.args.set.image.bytes.now (string_bytes text))
    (λ text h. record { first = c.in_ok-first.first; first_image = c.in_ok-first.ensures; text = h })
    c.network_lines.ensures
