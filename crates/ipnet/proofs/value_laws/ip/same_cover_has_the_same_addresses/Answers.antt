use Rattle.ipnet_base.specs.Address.{ip_address}
use Rattle.ipnet.proofs.value_laws.ip.same_cover_has_the_same_addresses.Goals as goal

pub returns : goal.returns
returns c h =
    h (ip_address c.args.address.now)
