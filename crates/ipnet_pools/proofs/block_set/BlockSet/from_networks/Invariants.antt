-- The set has the networks so far.
use Rattle.std.proofs.Common.{drop}
use Rattle.ipnet_pools.specs.BlocksOf.{blocks_of}
use Rattle.ipnet_pools.specs.Pieces.{IsListedSoFar}
use Rattle.ipnet_pools.proofs.block_set.BlockSet.from_networks.Given as goal

abbrev pub invariant-loop-network : goal.invariant-loop-network
invariant-loop-network l = IsListedSoFar l.networks (blocks_of l.set) (drop l.network-index l.networks)
