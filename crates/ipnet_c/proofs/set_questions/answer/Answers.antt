-- The octets are of one address, and the image was asked for it.
use Rattle.ipnet_base.specs.Address.{ip_address}
use Rattle.ipnet_c.proofs.SetQuestionReplies.{octets_answered}
use Rattle.ipnet_c.proofs.set_questions.answer.Goals as goal

pub returns-in-Some : goal.returns-in-Some
returns-in-Some c =
    λ x of_x. octets_answered c.args.image.now.bytes.now c.args.octets.now (ip_address c.in-Some.address) x
    c.contains.result c.from.result c.in-Some.ensures.some of_x c.contains.ensures c.from.ensures
