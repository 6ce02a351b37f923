use Rattle.ipnet_base.specs.Address.{ip_address}
use Rattle.netset_words.proofs.LogLaws.{one_lies}
use Rattle.netset_words.proofs.log_line.has_address.Goals as goal

pub returns : goal.returns
returns c =
    one_lies c.args.set.now (ip_address c.args.address) c.contains.result c.address_fits.ensures c.contains.ensures
