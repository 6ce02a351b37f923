-- The addresses of the lease become free, and then the lease is removed.
use Rattle.std.proofs.Common.{refl}
use Rattle.ipnet_sets.specs.Members.{IsMember}
use Rattle.ipnet_pools.specs.FreeOf.{IsIn}
use Rattle.ipnet_pools.proofs.KeepLaws.{rest_of}
use Rattle.ipnet_pools.proofs.PoolLaws.{leases_less, within_less, rest_less, leased_less, leased_not_free, weak}
use Rattle.ipnet_pools.proofs.PoolLaws.{rest_free}
use Rattle.ipnet_pools.proofs.pool.IpPool.end.Goals as goal

pub add-requires-clause-leased : goal.add-requires-clause-leased
add-requires-clause-leased g c =
    let pool = c.args.self.now in
    leased_not_free pool.leases.entries (IsMember pool.whole) (IsIn pool.free) c.args.network.now (rest_of pool)
    c.requires.leased

pub invariant_of-self : goal.invariant_of-self
invariant_of-self g c =
    let pool = c.args.self.now in
    record {
      apart = pool.apart;
      within = pool.within;
      rest = weak (IsIn c.add.new.self) pool.leases.entries (IsMember pool.whole)
          (rest_free (IsIn pool.free) pool.leases.entries (IsMember pool.whole) (IsIn c.add.new.self)
          c.in_err-add.ensures.same (rest_of pool));
    }

pub invariant_of-self-2 : goal.invariant_of-self-2
invariant_of-self-2 g c =
    let pool = c.args.self.now in
    let old = pool.leases.entries in
    let new = c.remove.new.leases.entries in
    let k = c.args.network.now in
    let less = c.remove.ensures.removed in
    record {
      apart = leases_less old new k less pool.apart;
      within = within_less old new k less (IsMember pool.whole) pool.within;
      rest = weak (IsIn c.add.new.self) new (IsMember pool.whole)
          (rest_less old new k less (IsMember pool.whole) (IsIn pool.free) (IsIn c.add.new.self) pool.apart
          c.requires.leased pool.within (rest_of pool) c.in_ok-add.ensures.added);
    }

pub returns-clause-released : goal.returns-clause-released
returns-clause-released g c =
    let pool = c.args.self.now in
    let k = c.args.network.now in
    record {
      was_leased = (k, refl, c.in-Some.ensures.was);
      whole = λ x. (λ h. h, λ h. h);
      free = c.in_ok-add.ensures.added;
      leases = leased_less pool.leases.entries c.remove.new.leases.entries k c.remove.ensures.removed;
    }
