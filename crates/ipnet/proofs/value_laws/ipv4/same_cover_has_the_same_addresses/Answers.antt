use Rattle.ipnet_base.specs.Address.{ipv4_address}
use Rattle.ipnet.proofs.value_laws.ipv4.same_cover_has_the_same_addresses.Goals as goal

pub returns : goal.returns
returns c h =
    h (ipv4_address c.args.address.now)
