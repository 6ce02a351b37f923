use Rattle.ipnet_base.proofs.MaskLaws.{netmask_ones, hostmask_ones, in_block_by_netmask}
use Rattle.ipnet_base.proofs.laws.masks_mark_the_prefix.Goals as goal

pub returns : goal.returns
returns c = record { netmask = netmask_ones; hostmask = hostmask_ones; block = in_block_by_netmask }
