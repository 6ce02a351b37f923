use Rattle.std.proofs.Common.{◌≡◌}
use Rattle.std.specs.Net.Addr.{ipv4_bits}
use Rattle.ipnet_base.specs.Address.{IPv4}
use Rattle.ipnet_base.proofs.AddressLaws.{bits_from_number}
use Rattle.ipnet_sets.proofs.number.U32Number.address.Goals as goal

pub returns : goal.returns
returns c =
    let same : ipv4_bits c.from_bits.result ≡ c.args.self
    = bits_from_number c.from_bits.result c.args.self c.ranges.self.fits c.from_bits.ensures in
    λ i. record { family = IPv4; number = same i }
