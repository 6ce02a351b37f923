-- The network gets smaller, or the routes get fewer.
use Rattle.std.proofs.Common.{◌+◌, length}
use Rattle.ipnet_base.specs.Network.{host_bits}
use Rattle.ipnet.specs.NetworkOf.{ip_network}
use Rattle.ipnet_fewest.proofs.block.+solved.Given as goal

abbrev pub decreases-solved : goal.decreases-solved
decreases-solved l = host_bits (ip_network l.around.now) + length l.routes.now
