-- The blocks so far are in the network.
use Rattle.std.proofs.Common.{◌<◌, ℕ, map, get_or}
use Rattle.ipnet_base.specs.Network.{Network, IsSubnetOf}
use Rattle.ipnet.specs.NetworkOf.{ip_network}
use Rattle.ipnet_shortest.proofs.halves.leading_in.Given as goal

abbrev pub invariant-loop-index : goal.invariant-loop-index
invariant-loop-index l = (i : ℕ) (d : Network) → i < l.index
    → IsSubnetOf (get_or (map ip_network l.blocks) i d) (ip_network l.network)
