-- Each way out gives a reply of `ListReplies`. The answer is that of the list's set.
use Rattle.std.proofs.Common.{Ok, refl, sym, subst}
use Rattle.ipnet.specs.NetLaws.{ip_valid}
use Rattle.ipnet_c.specs.Replies.{IsCoveredReply}
use Rattle.ipnet_c.proofs.ListReplies.{shows_whether_covered, shows_no_list, TellsFaults}
use Rattle.ipnet_c.proofs.covers.ipnet_is_covered.Goals as goal

pub returns-in-Err-set_of_text : goal.returns-in-Err-set_of_text
returns-in-Err-set_of_text c =
    let net = c.in-Ok.network in
    let read = c.in-Ok.ensures in
    let faults : TellsFaults c.args.network.now (Ok net) =
    record { length = read.length; variant = read.variant; prefix = read.prefix } in
    shows_no_list c.args.text.now c.args.network.now c.args.covered.now c.args.line.now c.set_of_text.new.line
    c.in-Err-set_of_text.status net faults (record { network = ip_valid net; bytes_are = (read.ok net).0 refl })
    c.in-Err-set_of_text.ensures.bad

pub returns : goal.returns
returns c =
    let net = c.in-Ok.network in
    let read = c.in-Ok.ensures in
    let faults : TellsFaults c.args.network.now (Ok net) =
    record { length = read.length; variant = read.variant; prefix = read.prefix } in
    let (utf8, h, kept) = c.in-Ok-set_of_text.ensures.set in
    subst (λ line. IsCoveredReply c.args.text.now c.args.network.now c.args.covered.now c.from.result c.args.line.now
    line 0) (sym kept)
    (shows_whether_covered c.args.text.now c.args.network.now c.args.covered.now c.from.result c.args.line.now
    h.networks net c.covers.result faults
    (record { network = ip_valid net; bytes_are = (read.ok net).0 refl }) utf8 h.written (
      λ t x inside. (h.addresses x).0 (c.covers.ensures.0 t x inside),
      λ covered. c.covers.ensures.1 (λ x inside. (h.addresses x).1 (covered x inside)),
    )
    c.from.ensures)
