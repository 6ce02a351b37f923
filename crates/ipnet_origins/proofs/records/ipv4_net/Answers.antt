-- The network is made of the numbers.
use Rattle.std.proofs.Common.{refl, ◌∙◌, arith}
use Rattle.ipnet_base.proofs.AddressLaws.{bits_from_number}
use Rattle.ipnet_base.proofs.NetworkLaws.{same_network}
use Rattle.ipnet.specs.NetworkOf.{ipv4_network_of}
use Rattle.ipnet_origins.proofs.records.ipv4_net.Goals as goal

pub returns-clause-some : goal.returns-clause-some
returns-clause-some c =
    c.new_assert.ensures
    ∙ same_network _ (ipv4_network_of c.args.number c.args.prefix_len) refl
    (bits_from_number c.from_bits-address.result c.args.number (omega (arith, c.if-number-ge4294967296.false))
    c.from_bits-address.ensures) refl
