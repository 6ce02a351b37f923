-- Errors that hand a value back.
use Rattle.std.specs.Prelude.{◌≡◌, ⊤, Result, Ok, Err}
use Rattle.ipnet.specs.declared.net.IpNet.{IpNet}
use Rattle.ipnet_pools.specs.declared.error.PoolError.{PoolError}
use Rattle.ipnet_pools.specs.declared.error.PoolError.TheVariants as Error
use Rattle.ipnet_pools.specs.declared.error.Refused.{Refused}

-- the call failed with this error
abbrev pub IsErrorOf : {T V : Type 0} → Result T (Refused V) → PoolError → Type 0
IsErrorOf (Ok t) error = ⊥
IsErrorOf (Err refused) error = refused.error ≡ error

-- the error is that the lease of some network, of which the property holds, is in the way
abbrev pub IsNotFreeAnd : PoolError → (IpNet → Type 0) → Type 0
IsNotFreeAnd (Error.NotFree lease) P = P lease
IsNotFreeAnd Error.PrefixLen P = ⊥
IsNotFreeAnd Error.Exhausted P = ⊥
IsNotFreeAnd Error.NotLeased P = ⊥
IsNotFreeAnd Error.NotInPool P = ⊥
IsNotFreeAnd Error.Memory P = ⊥

-- the call failed because a lease is in the way
abbrev pub IsNotFree : {T V : Type 0} → Result T (Refused V) → Type 0
IsNotFree (Ok t) = ⊥
IsNotFree (Err refused) = IsNotFreeAnd refused.error (λ _. ⊤)

-- if the call failed because a lease is in the way, the property holds of its network
abbrev pub IfNotFree : {T V : Type 0} → Result T (Refused V) → (IpNet → Type 0) → Type 0
IfNotFree (Ok t) P = ⊤
IfNotFree (Err refused) P = IsNotFreeAnd refused.error (λ _. ⊤) → IsNotFreeAnd refused.error P
