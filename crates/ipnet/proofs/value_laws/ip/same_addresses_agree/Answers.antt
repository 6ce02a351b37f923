use Rattle.ipnet_base.specs.Address.{ip_address}
use Rattle.ipnet.proofs.value_laws.ip.same_addresses_agree.Goals as goal

pub returns : goal.returns
returns c says same = says.0 same (ip_address c.args.address.now)
