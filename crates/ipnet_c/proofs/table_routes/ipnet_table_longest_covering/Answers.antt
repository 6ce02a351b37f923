-- The bytes are of one network, whose longest network in the table was asked for.
use Rattle.std.proofs.Common.{Ok, Err, refl, sym, subst, arith, rules}
use Rattle.ipnet.specs.NetworkOf.{ip_network}
use Rattle.ipnet.specs.NetLaws.{ip_valid}
use Rattle.ipnet_c.specs.Replies.{AreBytesOf}
use Rattle.ipnet_c.specs.RouteReplies.{IsCoveringReply}
use Rattle.ipnet_c.proofs.ListReplies.{TellsFaults}
use Rattle.ipnet_c.proofs.RouteReplies.{covering_found, covering_missing, covering_short, covering_refused}
use Rattle.ipnet_c.proofs.RouteReplies.{covering_fault}
use Rattle.ipnet_c.proofs.table_routes.ipnet_table_longest_covering.Goals as goal

pub returns-in-Some : goal.returns-in-Some
returns-in-Some c =
    let net = c.in-Ok.network in
    let read = c.in-Ok.ensures in
    let faults : TellsFaults c.args.network.now (Ok net) =
    record { length = read.length; variant = read.variant; prefix = read.prefix } in
    let is : AreBytesOf c.args.network.now (ip_network net) =
    record { network = ip_valid net; bytes_are = (read.ok net).0 refl } in
    let route = c.in-Some.route in
    covering_found c.args.table.now c.in-Ok-from_header.image.table.bytes.now c.args.network.now c.args.covering.now
    c.write_network.new.buffer net (ip_network route.0) c.args.value.now route.1 faults is
    c.in-Ok-from_header.ensures c.in-Ok-from_header.image.header (omega (arith, c.if-covering-lt-LONGEST_FORM.false))
    c.write_network.ensures c.in-Some.ensures.some (ip_valid route.0) c.in-Some.ensures.stored c.in-Some.ensures.holds

pub returns-in-None : goal.returns-in-None
returns-in-None c =
    let net = c.in-Ok.network in
    let read = c.in-Ok.ensures in
    let faults : TellsFaults c.args.network.now (Ok net) =
    record { length = read.length; variant = read.variant; prefix = read.prefix } in
    let is : AreBytesOf c.args.network.now (ip_network net) =
    record { network = ip_valid net; bytes_are = (read.ok net).0 refl } in
    covering_missing c.args.table.now c.in-Ok-from_header.image.table.bytes.now c.args.network.now
    c.args.covering.now net c.args.value.now faults is c.in-Ok-from_header.ensures c.in-Ok-from_header.image.header
    (omega (arith, c.if-covering-lt-LONGEST_FORM.false)) (λ t image. (c.in-None.ensures.none t image).0 refl)

pub returns-then-covering-lt-LONGEST_FORM : goal.returns-then-covering-lt-LONGEST_FORM
returns-then-covering-lt-LONGEST_FORM c =
    let net = c.in-Ok.network in
    let read = c.in-Ok.ensures in
    let faults : TellsFaults c.args.network.now (Ok net) =
    record { length = read.length; variant = read.variant; prefix = read.prefix } in
    let is : AreBytesOf c.args.network.now (ip_network net) =
    record { network = ip_valid net; bytes_are = (read.ok net).0 refl } in
    covering_short c.args.table.now c.args.network.now c.args.covering.now net c.args.value.now faults is
    (omega (arith, c.if-covering-lt-LONGEST_FORM.true))

pub returns-in_default : goal.returns-in_default
returns-in_default c =
    let net = c.in-Ok.network in
    let read = c.in-Ok.ensures in
    let faults : TellsFaults c.args.network.now (Ok net) =
    record { length = read.length; variant = read.variant; prefix = read.prefix } in
    let is : AreBytesOf c.args.network.now (ip_network net) =
    record { network = ip_valid net; bytes_are = (read.ok net).0 refl } in
    covering_refused c.args.table.now c.args.network.now c.args.covering.now net c.args.value.now faults is
    (omega (arith, c.if-covering-lt-LONGEST_FORM.false)) c.in_default.ensures.1

pub returns-in-Err : goal.returns-in-Err
returns-in-Err c =
    let error = c.in-Err.error in
    let read = c.in-Err.ensures in
    let faults : TellsFaults c.args.network.now (Err error) =
    record { length = read.length; variant = read.variant; prefix = read.prefix } in
    subst (IsCoveringReply c.args.table.now c.args.network.now c.args.covering.now c.args.covering.now
    c.args.value.now c.args.value.now) (sym c.status_of.ensures.status)
    (covering_fault c.args.table.now c.args.network.now c.args.covering.now error c.args.value.now faults
    (λ n are. search rules))
