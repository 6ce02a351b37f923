-- The network gets smaller, half by half.
use Rattle.ipnet_base.specs.Network.{host_bits}
use Rattle.ipnet.specs.NetworkOf.{ip_network}
use Rattle.ipnet_shortest.proofs.part.Terms.+part.Given as goal

abbrev pub decreases-part : goal.decreases-part
decreases-part l = host_bits (ip_network l.around.now)
