-- The keys of a set of networks, and the set as a list. Only private contracts cite these.
use Rattle.std.specs.Prelude.{◌≡◌, List, map, Contains}
use Rattle.ipnet_base.specs.Address.{family_index}
use Rattle.ipnet_base.specs.Network.{Network, host_bits}
use Rattle.ipnet.specs.NetworkOf.{ip_network}
use Rattle.ipnet_pools.specs.declared.block_set.BlockKey.{BlockKey}

-- the key has the family and the number of host bits of its network
pub record IsKey (k : BlockKey) : Type 0 where
  pub family : k.family ≡ family_index (ip_network k.network).family
  pub host_bits : k.host_bits ≡ host_bits (ip_network k.network)

-- each of the keys is the key of its network
abbrev pub AreKeys : List BlockKey → Type 0
AreKeys keys = (k : BlockKey) → Contains keys k → IsKey k

-- the networks of the keys
abbrev pub networks_of_keys : List BlockKey → List Network
networks_of_keys keys = map (λ k. ip_network k.network) keys
