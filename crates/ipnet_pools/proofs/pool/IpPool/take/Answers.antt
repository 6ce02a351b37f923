-- The lease is of the truncation, which has the same addresses.
use Rattle.std.proofs.Common.{subst}
use Rattle.std.specs.Prelude.{OnOk}
use Rattle.ipnet_base.proofs.NetworkLaws.{truncation_from_relation}
use Rattle.ipnet_base.proofs.ResultLaws.{true_gives}
use Rattle.ipnet.specs.NetworkOf.{ip_network}
use Rattle.ipnet_sets.specs.Members.{IsMember}
use Rattle.ipnet_pools.specs.FreeOf.{IsIn}
use Rattle.ipnet_pools.specs.PoolOf.{IsTaken}
use Rattle.ipnet_pools.proofs.KeepLaws.{rest_of}
use Rattle.ipnet_pools.proofs.TouchLaws.{touched_not_free, untouched_free, memory_not_free}
use Rattle.ipnet_pools.proofs.pool.IpPool.take.Goals as goal

pub returns-in-Some-clause-not_free : goal.returns-in-Some-clause-not_free
returns-in-Some-clause-not_free g c =
    let pool = c.args.self.now in (
      λ _. (
        true_gives c.covers.result c.covers.ensures c.if-not-covers.false,
        touched_not_free pool.leases.entries (IsMember pool.whole) (IsIn pool.free) (rest_of pool)
            (ip_network c.args.network.now) c.in-Some.lease.now
            (c.in-Some.field-0-1.now, c.in-Some.ensures.found.0) c.in-Some.ensures.found.1,
      ),
      λ _. tt,
    )

pub lease-requires-clause-free : goal.lease-requires-clause-free
lease-requires-clause-free g c = λ x a.
    let pool = c.args.self.now in
    untouched_free pool.leases.entries (IsMember pool.whole) (IsIn pool.free) (rest_of pool)
    (ip_network c.args.network.now) (true_gives c.covers.result c.covers.ensures c.if-not-covers.false)
    c.in_default.ensures.none x (c.trunc.ensures.same_block.0 x a)

pub returns-clause-taken : goal.returns-clause-taken
returns-clause-taken g c =
    subst (λ z. OnOk c.lease.result (IsTaken c.args.self.now c.lease.new.self z c.args.value))
    (truncation_from_relation (ip_network c.trunc.result) (ip_network c.args.network.now) c.trunc.ensures)
    c.lease.ensures.taken

pub returns-clause-not_free : goal.returns-clause-not_free
returns-clause-not_free g c =
    let pool = c.args.self.now in
    let lies = true_gives c.covers.result c.covers.ensures c.if-not-covers.false in (
      λ h. absurd (memory_not_free c.lease.result c.lease.ensures.error h),
      λ h. absurd (h.1 (untouched_free pool.leases.entries (IsMember pool.whole) (IsIn pool.free) (rest_of pool)
          (ip_network c.args.network.now) lies c.in_default.ensures.none)),
    )
