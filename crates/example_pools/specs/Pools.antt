-- A pool of subnets as contracts see it: its block, the assigned subnets and the free ones.
use Rattle.std.specs.Prelude.{ℕ, List, map}
use Rattle.ipnet.specs.Network.{Network}
use Rattle.ipnet.specs.NetworkOf.{ipv4_network}
use Rattle.ipnet.specs.SubnetsLeft.{ipv4_subnets_left}
use Rattle.example_pools.specs.declared.pool.Pool.{Pool}

-- The block of the pool. Example: 10.1.0.0/24.
abbrev pub block_of : Pool → Network
block_of pool = ipv4_network pool.block

-- The prefix length of its subnets. Example: 26.
abbrev pub length_of : Pool → ℕ
length_of pool = pool.prefix_len

-- The assigned subnets, in order of assignment. Example: 10.1.0.0/26 after one call.
abbrev pub assigned_of : Pool → List Network
assigned_of pool = map ipv4_network pool.assigned.items

-- The free subnets, ascending. Example: then 10.1.0.64/26, 10.1.0.128/26, 10.1.0.192/26.
abbrev pub free_of : Pool → List Network
free_of pool = ipv4_subnets_left pool.free
