-- The part grows from supernet to supernet.
use Rattle.ipnet.specs.NetworkOf.{ip_network}
use Rattle.ipnet_pools.proofs.pieces.+split.Given as goal

abbrev pub decreases-split : goal.decreases-split
decreases-split l = (ip_network l.part.now).prefix_len
