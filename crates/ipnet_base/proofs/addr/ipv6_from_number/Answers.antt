use Rattle.ipnet_base.proofs.AddressLaws.{ipv6_bits_from_number}
use Rattle.ipnet_base.proofs.addr.ipv6_from_number.Goals as goal

pub returns : goal.returns
returns c = ipv6_bits_from_number c.from_bits.result c.args.number c.ranges.number.fits c.from_bits.ensures
