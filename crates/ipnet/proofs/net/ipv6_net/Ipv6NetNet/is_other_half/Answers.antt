-- The leading bits of `self.number() ^ other.number()` are the number 1 if and only if the networks are the two halves
-- of one supernet: `halves_test`. `omega` uses the test of the two lengths before it.
use Rattle.std.proofs.Common.{◌-◌, ◌/◌, ◌^◌, ◌∙◌, refl, ap₂, arith, bit_xor}
use Rattle.ipnet.specs.NetworkOf.{ipv6_network}
use Rattle.ipnet.specs.NetLaws.{ipv6_valid}
use Rattle.ipnet.proofs.NumberLaws.{halves_test}
use Rattle.ipnet.proofs.net.ipv6_net.Ipv6NetNet.is_other_half.Goals as goal

pub returns : goal.returns
returns c =
    let n = c.args.self.now in
    let k = c.args.other.now in
    halves_test (ipv6_network n) (ipv6_network k) c.leading_bits-len.result c.prefix_of.result (ipv6_valid n)
    (ipv6_valid k) refl c.leading_bits-len.ensures (omega arith)
    (c.prefix_of.ensures ∙ ap₂ (λ a b. bit_xor a b / 2 ^ (128 - c.leading_bits-len.result)) c.number.ensures
    c.number-2.ensures)
