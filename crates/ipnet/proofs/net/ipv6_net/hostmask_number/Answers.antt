use Rattle.std.proofs.Common.{◌∙◌}
use Rattle.ipnet_base.proofs.MaskLaws.{host_from_shift}
use Rattle.ipnet.proofs.net.ipv6_net.hostmask_number.Goals as goal

pub returns : goal.returns
returns c =
    c.unwrap_or.ensures ∙ host_from_shift 128 c.args.prefix_len c.checked_shr.result c.requires c.checked_shr.ensures
