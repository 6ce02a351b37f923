use Rattle.ipnet_base.proofs.MaskLaws.{masks_add_up}
use Rattle.ipnet_base.proofs.laws.masks_add_up.Goals as goal

pub returns : goal.returns
returns c = masks_add_up
