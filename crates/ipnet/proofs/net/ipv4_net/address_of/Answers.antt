use Rattle.std.proofs.Common.{ap}
use Rattle.ipnet_base.specs.Address.{IPv4, address_at}
use Rattle.ipnet_base.proofs.AddressLaws.{bits_from_number}
use Rattle.ipnet.proofs.net.ipv4_net.address_of.Goals as goal

pub returns : goal.returns
returns c =
    ap (address_at IPv4) (bits_from_number c.from_bits.result c.args.number c.ranges.number.fits c.from_bits.ensures)
