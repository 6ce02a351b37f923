-- The addresses of tenants after a network is leased, and after one is released.
use Rattle.std.proofs.Common.{◌≡◌, ◌⊎◌, ◌↔◌, ℕ, Result, Ok, Err, IfOk, refl, subst, inl, inr}
use Rattle.ipnet.specs.Address.{Address}
use Rattle.ipnet.specs.Network.{Network, InBlock}
use Rattle.ipnet.specs.NetworkOf.{ip_network}
use Rattle.ipnet.specs.declared.net.IpNet.{IpNet}
use Rattle.ipnet_pools.specs.PoolOf.{IsLeased, IsSamePool, IsTaken, IsReleased}
use Rattle.ipnet_pools.specs.declared.pool.IpPool.{IpPool}

abbrev HasIn : IpPool ℕ → ℕ → Address → Type 0
HasIn pool t x = (n : Network) × IsLeased pool n t × InBlock n x

module _ (old new : IpPool ℕ) where
  pub after_lease : {E : Type 0} (tenant : ℕ) (r : Result IpNet E)
      → IfOk r (λ n. IsTaken old new (ip_network n) tenant)
      → IfOk r (λ n. (t : ℕ) (x : Address) → HasIn new t x
      ↔ (HasIn old t x ⊎ ((t ≡ tenant) × InBlock (ip_network n) x)))
  after_lease tenant (Ok n) taken = λ t x. (
    λ (m, leased, a). elim ((taken.leases m t).0 leased) [
      | inl l ↦ inl (m, l, a)
      | inr e ↦ inr (e.1, subst (λ z. InBlock z x) e.0 a)
    ],
    λ h. elim h [
      | inl has ↦ (has.0, (taken.leases has.0 t).1 (inl has.1), has.2)
      | inr e ↦ (ip_network n, (taken.leases (ip_network n) t).1 (inr (refl, e.0)), e.1)
    ],
  )
  after_lease tenant (Err e) taken = tt

  pub after_error : IsSamePool old new → (t : ℕ) (x : Address) → HasIn new t x ↔ HasIn old t x
  after_error same t x = (
    λ (m, l, a). (m, (same.leases m t).0 l, a),
    λ (m, l, a). (m, (same.leases m t).1 l, a),
  )

  pub after_release : {E : Type 0} (n : Network) (r : Result ℕ E) → IfOk r (λ v. IsReleased old new n v)
      → IfOk r (λ v. (t : ℕ) (x : Address) → HasIn new t x → HasIn old t x)
  after_release n (Ok v) released = λ t x (m, l, a). (m, ((released.leases m t).0 l).0, a)
  after_release n (Err e) released = tt
