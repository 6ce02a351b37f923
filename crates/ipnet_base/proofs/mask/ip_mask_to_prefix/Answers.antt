use Rattle.ipnet_base.proofs.mask.ip_mask_to_prefix.Goals as goal

pub returns-in-V4 : goal.returns-in-V4
returns-in-V4 c = rw c.in-V4.is c.ipv4_mask_to_prefix.ensures

pub returns-in-V6 : goal.returns-in-V6
returns-in-V6 c = rw c.in-V6.is c.ipv6_mask_to_prefix.ensures
