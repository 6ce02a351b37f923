-- All of the network is free if it lies in the pool and no lease touches it.
use Rattle.ipnet.specs.NetworkOf.{ip_network}
use Rattle.ipnet_sets.specs.Members.{IsMember}
use Rattle.ipnet_pools.specs.FreeOf.{IsIn}
use Rattle.ipnet_pools.proofs.KeepLaws.{rest_of}
use Rattle.ipnet_pools.proofs.TouchLaws.{touched_not_free, untouched_free}
use Rattle.ipnet_pools.proofs.pool.IpPool.is_free.Goals as goal

pub returns-in-Some : goal.returns-in-Some
returns-in-Some g c =
    let pool = c.args.self.now in (
      λ no. absurd (cc),
      λ free. absurd (touched_not_free pool.leases.entries (IsMember pool.whole) (IsIn pool.free) (rest_of pool)
          (ip_network c.args.network.now) _ (_, c.in-Some.ensures.found.0) c.in-Some.ensures.found.1 free),
    )

pub returns-in-None : goal.returns-in-None
returns-in-None g c =
    let pool = c.args.self.now in (
      λ yes. untouched_free pool.leases.entries (IsMember pool.whole) (IsIn pool.free) (rest_of pool)
          (ip_network c.args.network.now) (c.covers.ensures.0 yes) c.in-None.ensures.none,
      λ free. c.covers.ensures.1 (λ x a. ((rest_of pool x).0 (free x a)).0),
    )
