use Rattle.ipnet_base.proofs.MaskLaws.{IsNetmaskOf-unique}
use Rattle.ipnet_base.proofs.laws.netmask_has_one_prefix_len.Goals as goal

pub returns : goal.returns
returns c = IsNetmaskOf-unique
