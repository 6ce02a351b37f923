-- The addresses of a pool, its free addresses and its leases: everything that contracts say about a pool.
-- In the examples, the pool is 10.0.0.0/24, and 10.0.0.64/26 is leased with the value 7.
use Rattle.std.specs.Prelude.{◌≡◌, ◌↔◌, ◌⊎◌, List, Contains}
use Rattle.ipnet_base.specs.Address.{Family, Address}
use Rattle.ipnet_base.specs.Network.{Network, InBlock}
use Rattle.ipnet.specs.declared.net.IpNet.{IpNet}
use Rattle.ipnet.specs.NetworkOf.{ip_network}
use Rattle.ipnet_sets.specs.declared.set.IpSet.{IpSet}
use Rattle.ipnet_sets.specs.Members.{IsMember}
use Rattle.ipnet_pools.specs.FreeOf.{IsIn}
use Rattle.ipnet_pools.specs.Leases.{IsFirstWithAddressOf}
use Rattle.ipnet_pools.specs.declared.pool.IpPool.{IpPool}

-- The address belongs to the pool, free or leased. Example: 10.0.0.70, and not 10.0.1.0.
abbrev pub IsOfPool : {V : Type 0} → IpPool V → Address → Type 0
IsOfPool pool = IsMember pool.whole

-- The address is free. Example: 10.0.0.5, and not 10.0.0.70.
abbrev pub IsFree : {V : Type 0} → IpPool V → Address → Type 0
IsFree pool = IsIn pool.free

-- The address belongs to the pool and is of the family.
abbrev pub IsOfPoolIn : {V : Type 0} → Family → IpPool V → Address → Type 0
IsOfPoolIn f pool x = (x.family ≡ f) × IsOfPool pool x

-- The address is free and of the family.
abbrev pub IsFreeIn : {V : Type 0} → Family → IpPool V → Address → Type 0
IsFreeIn f pool x = (x.family ≡ f) × IsFree pool x

-- The address belongs to the pool and is not free: it is leased. Example: 10.0.0.70.
abbrev pub IsInUse : {V : Type 0} → IpPool V → Address → Type 0
IsInUse pool x = IsOfPool pool x × ¬ (IsFree pool x)

-- The address is leased and of the family.
abbrev pub IsLeasedIn : {V : Type 0} → Family → IpPool V → Address → Type 0
IsLeasedIn f pool x = (x.family ≡ f) × IsInUse pool x

-- The leases: networks with a value each, in the order of the networks. Example: 10.0.0.64/26 with 7.
abbrev pub leases_of : {V : Type 0} → IpPool V → List (IpNet × V)
leases_of pool = pool.leases.entries

-- The network is leased with the value. Example: 10.0.0.64/26 with 7; not 10.0.0.64/27, which is a part of a lease.
abbrev pub IsLeased : {V : Type 0} → IpPool V → Network → V → Type 0
IsLeased pool n v = (k : IpNet) × (ip_network k ≡ n) × Contains (leases_of pool) (k, v)

-- The network is leased. Example: 10.0.0.64/26.
abbrev pub IsLeaseOf : {V : Type 0} → IpPool V → IpNet → Type 0
IsLeaseOf {V} pool k = (v : V) × Contains (leases_of pool) (k, v)

-- The first lease, in the order of networks, that has an address of the set.
-- Example: 10.0.0.64/26 for the leases 10.0.0.0/26, 10.0.0.64/26 and 10.0.0.128/26 and the set 10.0.0.100-10.0.0.200.
abbrev pub IsFirstInTheWay : {V : Type 0} → IpPool V → (Address → Type 0) → IpNet → Type 0
IsFirstInTheWay pool InSet n = IsFirstWithAddressOf (leases_of pool) InSet n

-- Both pools have the same addresses, the same free addresses and the same leases.
pub record IsSamePool {V : Type 0} (old new : IpPool V) : Type 0 where
  pub whole : (x : Address) → IsOfPool new x ↔ IsOfPool old x
  pub free : (x : Address) → IsFree new x ↔ IsFree old x
  pub leases : (n : Network) (v : V) → IsLeased new n v ↔ IsLeased old n v

-- The network's addresses were free, and now it is leased with the value; everything else is as it was.
-- Example: after 10.0.0.0/26 is taken with 8, the free addresses are 10.0.0.128/25, and there are two leases.
pub record IsTaken {V : Type 0} (old new : IpPool V) (n : Network) (v : V) : Type 0 where
  pub was_free : (x : Address) → InBlock n x → IsFree old x
  pub whole : (x : Address) → IsOfPool new x ↔ IsOfPool old x
  pub free : (x : Address) → IsFree new x ↔ (IsFree old x × ¬ (InBlock n x))
  pub leases : (m : Network) (w : V) → IsLeased new m w ↔ (IsLeased old m w ⊎ ((m ≡ n) × (w ≡ v)))

-- The network was leased with the value, and now its addresses are free; everything else is as it was.
-- Example: after 10.0.0.64/26 is released, 10.0.0.0/24 is free, and there is no lease.
pub record IsReleased {V : Type 0} (old new : IpPool V) (n : Network) (v : V) : Type 0 where
  pub was_leased : IsLeased old n v
  pub whole : (x : Address) → IsOfPool new x ↔ IsOfPool old x
  pub free : (x : Address) → IsFree new x ↔ (IsFree old x ⊎ InBlock n x)
  pub leases : (m : Network) (w : V) → IsLeased new m w ↔ (IsLeased old m w × ¬ (m ≡ n))

-- The set's addresses belong to the pool now. Those that did not belong to it are free, and everything else is as it
-- was. Example: 10.0.0.0/25 with the lease 10.0.0.0/26, extended by 10.0.0.0/24, has 10.0.0.64 to 10.0.0.255 free.
pub record IsExtended {V : Type 0} (old new : IpPool V) (set : IpSet) : Type 0 where
  pub whole : (x : Address) → IsOfPool new x ↔ (IsOfPool old x ⊎ IsMember set x)
  pub free : (x : Address) → IsFree new x ↔ (IsFree old x ⊎ (IsMember set x × ¬ (IsOfPool old x)))
  pub leases : (n : Network) (v : V) → IsLeased new n v ↔ IsLeased old n v

-- No address of the set was leased, and none belongs to the pool now; everything else is as it was.
-- Example: 10.0.0.0/24 with the lease 10.0.0.0/26, without 10.0.0.128/25, has 10.0.0.64/26 free.
pub record IsShrunk {V : Type 0} (old new : IpPool V) (set : IpSet) : Type 0 where
  pub was_free : (x : Address) → IsMember set x → IsOfPool old x → IsFree old x
  pub whole : (x : Address) → IsOfPool new x ↔ (IsOfPool old x × ¬ (IsMember set x))
  pub free : (x : Address) → IsFree new x ↔ (IsFree old x × ¬ (IsMember set x))
  pub leases : (n : Network) (v : V) → IsLeased new n v ↔ IsLeased old n v
