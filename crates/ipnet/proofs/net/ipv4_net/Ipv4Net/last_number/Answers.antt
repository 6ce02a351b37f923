use Rattle.std.proofs.Common.{◌-◌, ◌^◌, ◌∙◌, ap, ap₂, bit_or}
use Rattle.ipnet_base.proofs.MaskLaws.{or_host_is}
use Rattle.ipnet.specs.NetworkOf.{ipv4_network}
use Rattle.ipnet.proofs.net.ipv4_net.Ipv4Net.last_number.Goals as goal

pub returns : goal.returns
returns c =
    let n = c.args.self.now in
    ap₂ bit_or c.number.ensures (c.hostmask_number.ensures ∙ ap (λ p. 2 ^ (32 - p) - 1) c.leading_bits.ensures)
    ∙ or_host_is (32 - (ipv4_network n).prefix_len) (ipv4_network n).number
