-- The network grows from supernet to supernet.
use Rattle.ipnet.specs.NetworkOf.{ip_network}
use Rattle.ipnet_pools.proofs.pieces.+holder.Given as goal

abbrev pub decreases-holder : goal.decreases-holder
decreases-holder l = (ip_network l.network.now).prefix_len
