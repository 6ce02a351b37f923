-- The list has the networks so far.
use Rattle.std.proofs.Common.{◌≡◌, ◌++◌, map}
use Rattle.ipnet.specs.NetworkOf.{ip_network}
use Rattle.ipnet_pools.specs.BlockKeys.{networks_of_keys}
use Rattle.ipnet_pools.proofs.block_set.BlockSet.networks.Given as goal

abbrev pub invariant-loop-key : goal.invariant-loop-key
invariant-loop-key l =
    map ip_network l.networks.items ++ networks_of_keys l.key-iterator ≡ networks_of_keys l.fn.self.keys.keys
