use Rattle.std.proofs.Common.{◌≡◌}
use Rattle.std.specs.Net.Addr.{ipv6_bits}
use Rattle.ipnet_base.specs.Address.{IPv6}
use Rattle.ipnet_base.proofs.AddressLaws.{ipv6_bits_from_number}
use Rattle.ipnet_sets.proofs.number.U128Number.address.Goals as goal

pub returns : goal.returns
returns c =
    let same : ipv6_bits c.from_bits.result ≡ c.args.self
    = ipv6_bits_from_number c.from_bits.result c.args.self c.ranges.self.fits c.from_bits.ensures in
    λ i. record { family = IPv6; number = same i }
