use Rattle.std.proofs.Common.{◌∙◌}
use Rattle.ipnet_base.proofs.MaskLaws.{mask_from_shift}
use Rattle.ipnet_base.proofs.mask.ipv6_netmask.Goals as goal

pub returns : goal.returns
returns c =
    c.unwrap_or.ensures ∙ mask_from_shift 128 c.args.prefix_len c.checked_shl.result c.requires c.checked_shl.ensures
