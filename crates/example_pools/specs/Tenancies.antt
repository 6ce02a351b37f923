-- The addresses that tenants have.
use Rattle.std.specs.Prelude.{ℕ}
use Rattle.ipnet.specs.Address.{Address}
use Rattle.ipnet.specs.Network.{Network, InBlock}
use Rattle.ipnet_pools.specs.PoolOf.{IsLeased}
use Rattle.example_pools.specs.declared.tenants.Tenants.{Tenants}

-- The tenant has the address: it lies in a network that is leased to the tenant. The value of a lease is the number of
-- its tenant.
-- Example: if the only lease is 10.0.0.64/26 with the value 7, tenant 7 has 10.0.0.70, and nobody has 10.0.0.128.
abbrev pub Has : Tenants → ℕ → Address → Type 0
Has tenants tenant x = (n : Network) × IsLeased tenants.pool n tenant × InBlock n x
