use Rattle.std.proofs.Common.{◌-◌, ◌^◌, ◌∙◌, ap, ap₂, bit_or}
use Rattle.ipnet_base.proofs.MaskLaws.{or_host_is}
use Rattle.ipnet.specs.NetworkOf.{ipv6_network}
use Rattle.ipnet.proofs.net.ipv6_net.Ipv6Net.last_number.Goals as goal

pub returns : goal.returns
returns c =
    let n = c.args.self.now in
    ap₂ bit_or c.number.ensures (c.hostmask_number.ensures ∙ ap (λ p. 2 ^ (128 - p) - 1) c.leading_bits.ensures)
    ∙ or_host_is (128 - n.prefix_len) (ipv6_network n).number
