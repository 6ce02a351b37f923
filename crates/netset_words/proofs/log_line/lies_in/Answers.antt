use Rattle.ipnet_lists.specs.EntryOf.{entry_range}
use Rattle.netset_words.proofs.LogLaws.{lies_so}
use Rattle.netset_words.proofs.log_line.lies_in.Goals as goal

pub returns-in-Address : goal.returns-in-Address
returns-in-Address c = rw c.in-Address.is c.has_address.ensures

pub returns-in_default : goal.returns-in_default
returns-in_default c =
    let so = lies_so c.args.set.now (entry_range c.args.entry) c.covers_entry.ensures.fits in
    let covers = c.covers_entry.ensures.covers in
    (λ t. so.0 (covers.0 t), λ lies. covers.1 (so.1 lies))
