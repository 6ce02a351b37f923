use Rattle.std.proofs.Common.{refl, Some, None}
use Rattle.std.specs.declared.net.ip_addr.IpAddr.TheVariants as Ip
use Rattle.ipnet_lists.specs.declared.entry.Entry.TheVariants as Entries
use Rattle.netset_words.proofs.KindLaws.{range_entry}
use Rattle.netset_words.proofs.log_entry.entry_as.Goals as goal

pub returns-in-Some : goal.returns-in-Some
returns-in-Some c = λ grammar text is writes.
    range_entry c.args.mapped grammar text (Some c.in-Some.address) c.args.entry
    (Entries.Address (Ip.V4 c.in-Some.address)) (c.in-Some.ensures grammar text writes) refl is

pub returns-in-None : goal.returns-in-None
returns-in-None c = λ grammar text is writes.
    range_entry c.args.mapped grammar text None c.args.entry c.args.entry (c.in-None.ensures grammar text writes) refl
    is
