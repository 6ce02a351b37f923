-- The supernet's prefix is one bit shorter.
use Rattle.ipnet.specs.NetworkOf.{ip_network}
use Rattle.example_calls.proofs.networks.+common_supernet.Given as goal

abbrev pub decreases-common_supernet : goal.decreases-common_supernet
decreases-common_supernet l = (ip_network l.a.now).prefix_len
