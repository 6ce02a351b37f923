-- The network is made of the numbers.
use Rattle.std.proofs.Common.{refl, ◌∙◌, arith}
use Rattle.ipnet_base.proofs.AddressLaws.{ipv6_bits_from_number}
use Rattle.ipnet_base.proofs.NetworkLaws.{same_network}
use Rattle.ipnet.specs.NetworkOf.{ipv6_network_of}
use Rattle.ipnet_origins.proofs.records.ipv6_net.Goals as goal

pub returns-clause-some : goal.returns-clause-some
returns-clause-some c =
    c.new_assert.ensures
    ∙ same_network _ (ipv6_network_of c.args.number c.args.prefix_len) refl
    (ipv6_bits_from_number c.from_bits-address.result c.args.number (omega (arith, c.ranges.number.fits))
    c.from_bits-address.ensures) refl
