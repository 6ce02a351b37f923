-- The netmask clears the low bits, by `and_mask_is`.
use Rattle.std.proofs.Common.{◌-◌, ◌∙◌, ap₂, arith, bit_and}
use Rattle.ipnet_base.proofs.MaskLaws.{and_mask_is}
use Rattle.ipnet.specs.NetworkOf.{ipv6_network}
use Rattle.ipnet.specs.NetLaws.{ipv6_valid}
use Rattle.ipnet.proofs.net.ipv6_net.Ipv6Net.masked.Goals as goal

pub returns : goal.returns
returns c =
    let n = c.args.self.now in
    ap₂ bit_and c.number.ensures c.netmask_number.ensures
    ∙ and_mask_is 128 (128 - c.args.prefix_len) (ipv6_network n).number (omega arith) (ipv6_valid n).address_fits
