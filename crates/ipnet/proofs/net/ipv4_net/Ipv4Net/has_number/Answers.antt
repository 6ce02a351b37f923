use Rattle.std.proofs.Common.{◌-◌, ◌/◌, ◌^◌, ◌∙◌, ap, bit_xor}
use Rattle.ipnet.specs.NetworkOf.{ipv4_network}
use Rattle.ipnet.proofs.NumberLaws.{in_block_test}
use Rattle.ipnet.proofs.net.ipv4_net.Ipv4Net.has_number.Goals as goal

pub returns : goal.returns
returns c =
    in_block_test (ipv4_network c.args.self.now) c.args.number c.leading_bits.result c.prefix_of.result
    c.leading_bits.ensures
    (c.prefix_of.ensures ∙ ap (λ a. bit_xor c.args.number a / 2 ^ (32 - c.leading_bits.result)) c.number.ensures)
