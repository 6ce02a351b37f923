-- The address has the number 0.
use Rattle.std.proofs.Common.{◌∙◌, ap, arith}
use Rattle.ipnet_base.proofs.AddressLaws.{bits_from_number}
use Rattle.ipnet.specs.NetworkOf.{ipv4_network_of}
use Rattle.ipnet_pools.proofs.block_set.least_network.Goals as goal

pub returns : goal.returns
returns c =
    c.new_assert.ensures
    ∙ ap (λ b. ipv4_network_of b 0) (bits_from_number c.from_bits.result 0 (omega arith) c.from_bits.ensures)
