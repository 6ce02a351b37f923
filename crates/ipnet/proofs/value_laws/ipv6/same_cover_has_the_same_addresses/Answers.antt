use Rattle.ipnet_base.specs.Address.{ipv6_address}
use Rattle.ipnet.proofs.value_laws.ipv6.same_cover_has_the_same_addresses.Goals as goal

pub returns : goal.returns
returns c h =
    h (ipv6_address c.args.address.now)
