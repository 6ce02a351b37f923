-- The reply is of the network that the bytes are, and of the set of the image.
use Rattle.std.proofs.Common.{Ok, refl, sym, subst}
use Rattle.ipnet.specs.NetLaws.{ip_valid}
use Rattle.ipnet_c.proofs.ListReplies.{TellsFaults}
use Rattle.ipnet_c.proofs.SetQuestionReplies.{covers_answered, covers_refused}
use Rattle.ipnet_sets.specs.Images.{HasHeader, IsImageOf}
use Rattle.ipnet_c.proofs.set_questions.ipnet_set_covers.Goals as goal

pub returns-in_default : goal.returns-in_default
returns-in_default c =
    let net = c.in-Ok.network in
    let read = c.in-Ok.ensures in
    let faults : TellsFaults c.args.network.now (Ok net) =
    record { length = read.length; variant = read.variant; prefix = read.prefix } in
    covers_refused c.args.set.now c.args.network.now net faults
    (record { network = ip_valid net; bytes_are = (read.ok net).0 refl }) c.in_default.ensures.1

pub returns : goal.returns
returns c =
    let net = c.in-Ok.network in
    let read = c.in-Ok.ensures in
    let faults : TellsFaults c.args.network.now (Ok net) =
    record { length = read.length; variant = read.variant; prefix = read.prefix } in
    let same = c.in-Ok-from_header.ensures in
    covers_answered c.args.set.now c.args.network.now net c.covers.result c.from.result faults
    (record { network = ip_valid net; bytes_are = (read.ok net).0 refl })
    (subst HasHeader same c.in-Ok-from_header.image.header)
    (λ s image. c.covers.ensures s (subst (λ z. IsImageOf z s) (sym same) image)) c.from.ensures
