-- Leases: networks with a value each, as a list. The invariants of a pool cite these, and `PoolOf`.
use Rattle.std.specs.Prelude.{◌≡◌, ◌↔◌, ◌⊎◌, List, Contains, map}
use Rattle.ipnet_base.specs.Address.{Address}
use Rattle.ipnet_base.specs.Network.{Network, InBlock, IsTruncated, AreDisjoint, IsBefore}
use Rattle.ipnet.specs.declared.net.IpNet.{IpNet}
use Rattle.ipnet.specs.NetworkOf.{ip_network}

-- the list has a lease of the network
abbrev pub HasLeaseOf : {V : Type 0} → List (IpNet × V) → IpNet → Type 0
HasLeaseOf {V} leases n = (v : V) × Contains leases (n, v)

-- the address lies in the network of a lease
abbrev pub IsInLease : {V : Type 0} → List (IpNet × V) → Address → Type 0
IsInLease leases x = (n : IpNet) × HasLeaseOf leases n × InBlock (ip_network n) x

-- the networks of the leases have no host bits, and no two of them share an address
pub record AreLeases {V : Type 0} (leases : List (IpNet × V)) : Type 0 where
  pub truncated : (n : IpNet) → HasLeaseOf leases n → IsTruncated (ip_network n)
  pub apart : (n m : IpNet) → HasLeaseOf leases n → HasLeaseOf leases m → ¬ (n ≡ m)
      → AreDisjoint (ip_network n) (ip_network m)

-- the leases lie in the set
abbrev pub LieIn : {V : Type 0} → List (IpNet × V) → (Address → Type 0) → Type 0
LieIn leases InSet = (x : Address) → IsInLease leases x → InSet x

-- the free addresses are the addresses of the set that lie in no lease
abbrev pub IsRest : {V : Type 0} → (Address → Type 0) → List (IpNet × V) → (Address → Type 0) → Type 0
IsRest Free leases InSet = (x : Address) → Free x ↔ (InSet x × ¬ (IsInLease leases x))

-- the same, as an invariant: a free address may be in several places of a list
pub record IsRestOf {V : Type 0} (Free : Address → Type 0) (leases : List (IpNet × V)) (InSet : Address → Type 0)
    : Type 0 where
  pub inside : (x : Address) → Free x → InSet x
  pub beside : (x : Address) → Free x → ¬ (IsInLease leases x)
  pub others : (x : Address) → InSet x → ¬ (IsInLease leases x) → ¬ (¬ (Free x))

-- the lease is not after the network `at`, and it is the last such lease
pub record IsLastNotAfter {V : Type 0} (leases : List (IpNet × V)) (at k : IpNet) : Type 0 where
  pub not_after : ¬ (IsBefore (ip_network at) (ip_network k))
  pub last : (q : IpNet) → HasLeaseOf leases q → ¬ (IsBefore (ip_network at) (ip_network q))
      → ¬ (IsBefore (ip_network k) (ip_network q))

-- the network has an address of the set
abbrev pub HasAddressOf : (Address → Type 0) → IpNet → Type 0
HasAddressOf InSet n = (x : Address) × InBlock (ip_network n) x × InSet x

-- the first lease, in the order of networks, that has an address of the set
pub record IsFirstWithAddressOf {V : Type 0} (leases : List (IpNet × V)) (InSet : Address → Type 0) (n : IpNet)
    : Type 0 where
  pub leased : HasLeaseOf leases n
  pub shared : HasAddressOf InSet n
  pub first : (k : IpNet) → HasLeaseOf leases k → HasAddressOf InSet k
      → (k ≡ n) ⊎ IsBefore (ip_network n) (ip_network k)

-- the networks of the leases, one after the other
abbrev pub networks_of_leases : {V : Type 0} → List (IpNet × V) → List Network
networks_of_leases leases = map (λ lease. ip_network lease.0) leases
