-- The netmask clears the low bits, by `and_mask_is`.
use Rattle.std.proofs.Common.{◌-◌, ◌∙◌, ap₂, arith, bit_and}
use Rattle.ipnet_base.proofs.MaskLaws.{and_mask_is}
use Rattle.ipnet.specs.NetworkOf.{ipv4_network}
use Rattle.ipnet.specs.NetLaws.{ipv4_valid}
use Rattle.ipnet.proofs.net.ipv4_net.Ipv4Net.masked.Goals as goal

pub returns : goal.returns
returns c =
    let n = c.args.self.now in
    ap₂ bit_and c.number.ensures c.netmask_number.ensures
    ∙ and_mask_is 32 (32 - c.args.prefix_len) (ipv4_network n).number (omega arith) (ipv4_valid n).address_fits
