-- The networks of a set of networks. Only private contracts cite these.
use Rattle.std.specs.Prelude.{List}
use Rattle.ipnet_base.specs.Network.{Network}
use Rattle.ipnet_pools.specs.BlockKeys.{networks_of_keys}
use Rattle.ipnet_pools.specs.declared.block_set.BlockSet.{BlockSet}

-- the networks of the set
abbrev pub blocks_of : BlockSet → List Network
blocks_of set = networks_of_keys set.keys.keys
