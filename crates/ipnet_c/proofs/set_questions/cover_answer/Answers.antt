-- The answer is of the network that the bytes are; the image has its header.
use Rattle.std.proofs.Common.{Ok, refl}
use Rattle.ipnet.specs.NetLaws.{ip_valid}
use Rattle.ipnet_c.proofs.ListReplies.{TellsFaults}
use Rattle.ipnet_c.proofs.SetQuestionReplies.{covers_answered}
use Rattle.ipnet_c.proofs.set_questions.cover_answer.Goals as goal

pub returns-in-Ok : goal.returns-in-Ok
returns-in-Ok c =
    let net = c.in-Ok.network in
    let read = c.in-Ok.ensures in
    let faults : TellsFaults c.args.network.now (Ok net) =
    record { length = read.length; variant = read.variant; prefix = read.prefix } in
    covers_answered c.args.image.now.bytes.now c.args.network.now net c.covers.result c.from.result faults
    (record { network = ip_valid net; bytes_are = (read.ok net).0 refl }) c.args.image.now.header c.covers.ensures
    c.from.ensures
