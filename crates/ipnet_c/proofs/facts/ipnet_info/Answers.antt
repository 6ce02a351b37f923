-- The facts are about the network of the bytes.
use Rattle.std.proofs.Common.{Ok, refl, sym, subst}
use Rattle.ipnet.specs.NetLaws.{ip_valid}
use Rattle.ipnet.specs.NetworkOf.{ip_network}
use Rattle.ipnet_info.specs.Facts.{IsFactsText}
use Rattle.ipnet_c.proofs.FactReplies.{facts_listed}
use Rattle.ipnet_c.proofs.ListReplies.{TellsFaults}
use Rattle.ipnet_c.proofs.facts.ipnet_info.Goals as goal

pub returns-in-Ok-facts_text : goal.returns-in-Ok-facts_text
returns-in-Ok-facts_text c =
    let net = c.in-Ok.network in
    let read = c.in-Ok.ensures in
    let faults : TellsFaults c.args.network.now (Ok net) =
    record { length = read.length; variant = read.variant; prefix = read.prefix } in
    let form = c.in-Some.form in
    let made = c.write_to_buffer in
    facts_listed c.args.form c.args.network.now c.as_bytes.result.now c.args.buffer.now made.new.buffer
    c.args.count.now made.new.count made.result net (form, c.in-Some.ensures.some) faults
    (record {
      form = form;
      form_is = c.in-Some.ensures.some;
      network = ip_network net;
      are = record { network = ip_valid net; bytes_are = (read.ok net).0 refl };
      facts = subst (IsFactsText form (ip_network net)) (sym c.as_bytes.ensures.value) c.in-Ok-facts_text.ensures;
    })
    made.ensures.known made.ensures.ok made.ensures.too_short
