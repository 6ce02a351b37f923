-- The part grows from supernet to supernet.
use Rattle.ipnet.specs.NetworkOf.{ip_network}
use Rattle.ipnet_pools.proofs.pieces.+join.Given as goal

abbrev pub decreases-join : goal.decreases-join
decreases-join l = (ip_network l.part.now).prefix_len
