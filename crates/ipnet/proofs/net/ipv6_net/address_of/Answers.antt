use Rattle.std.proofs.Common.{ap}
use Rattle.ipnet_base.specs.Address.{IPv6, address_at}
use Rattle.ipnet_base.proofs.AddressLaws.{ipv6_bits_from_number}
use Rattle.ipnet.proofs.net.ipv6_net.address_of.Goals as goal

pub returns : goal.returns
returns c =
    ap (address_at IPv6) (ipv6_bits_from_number c.from_bits.result c.args.number c.ranges.number.fits
    c.from_bits.ensures)
