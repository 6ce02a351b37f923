-- If a lease is in the way, the error contains it.
use Rattle.std.proofs.Common.{refl, inl}
use Rattle.ipnet_sets.specs.Members.{IsMember}
use Rattle.ipnet_pools.specs.FreeOf.{IsIn}
use Rattle.ipnet_pools.proofs.KeepLaws.{rest_of}
use Rattle.ipnet_pools.proofs.PoolLaws.{weak, rest_shrunk, within_shrunk}
use Rattle.ipnet_pools.proofs.pool.IpPool.shrink.Goals as goal

pub returns-in-Some-clause-errors : goal.returns-in-Some-clause-errors
returns-in-Some-clause-errors g c e = inl (c.in-Some.lease, refl)

pub returns-in-Some-clause-not_free : goal.returns-in-Some-clause-not_free
returns-in-Some-clause-not_free g c =
    let pool = c.args.self.now in
    let n = c.in-Some.lease in
    let found = c.in-Some.ensures.found in
    let (x, a, member) = found.shared in (
      λ _ free. ((rest_of pool x).0 (free x member (pool.within x (n, found.leased, a)))).1 (n, found.leased, a),
      λ _. (n, refl),
    )

pub invariant_of-self-2 : goal.invariant_of-self-2
invariant_of-self-2 g c =
    let pool = c.args.self.now in
    let leases = pool.leases.entries in
    let set = IsMember c.args.set.now in
    let whole = IsMember c.in_ok-whole.whole in
    let free = IsIn c.cut_set.new.self in
    record {
      apart = pool.apart;
      within = within_shrunk leases (IsMember pool.whole) (IsIn pool.free) set whole free pool.within (rest_of pool)
          c.in_default.ensures.none c.in_ok-whole.ensures.members;
      rest = weak free leases whole (rest_shrunk leases (IsMember pool.whole) (IsIn pool.free) set whole free
          pool.within (rest_of pool) c.in_ok-whole.ensures.members c.in_ok-cut_set.ensures.cut);
    }
