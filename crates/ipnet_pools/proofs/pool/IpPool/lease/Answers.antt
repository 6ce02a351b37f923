-- The lease is added, and its addresses are removed from the free ones; if that fails, the lease is removed again.
use Rattle.std.proofs.Common.{refl, inr}
use Rattle.ipnet_sets.specs.Members.{IsMember}
use Rattle.ipnet_pools.specs.FreeOf.{IsIn}
use Rattle.ipnet_pools.proofs.KeepLaws.{rest_of}
use Rattle.ipnet_pools.proofs.PoolLaws.{AreSame, same_list, leases_same, within_same, rest_same, leased_same}
use Rattle.ipnet_pools.proofs.PoolLaws.{leases_more, within_more, rest_more, leased_more, more_and_less}
use Rattle.ipnet_pools.proofs.PoolLaws.{free_not_leased, value_of_more, weak, rest_free}
use Rattle.ipnet_pools.proofs.pool.IpPool.lease.Goals as goal

pub insert-requires : goal.insert-requires
insert-requires g c =
    let pool = c.args.self.now in
    free_not_leased pool.leases.entries (IsMember pool.whole) (IsIn pool.free) c.args.network (rest_of pool)
    c.requires.free

pub invariant_of-self : goal.invariant_of-self
invariant_of-self g c =
    let pool = c.args.self.now in
    let same : AreSame pool.leases.entries c.insert.new.leases.entries =
    same_list pool.leases.entries c.insert.new.leases.entries c.in-Err.ensures.unchanged in
    record {
      apart = leases_same pool.leases.entries c.insert.new.leases.entries same pool.apart;
      within = within_same pool.leases.entries c.insert.new.leases.entries same (IsMember pool.whole) pool.within;
      rest = weak (IsIn pool.free) c.insert.new.leases.entries (IsMember pool.whole)
          (rest_same pool.leases.entries c.insert.new.leases.entries same (IsMember pool.whole) (IsIn pool.free)
          (rest_of pool));
    }

pub returns-in-Err-clause-unchanged : goal.returns-in-Err-clause-unchanged
returns-in-Err-clause-unchanged g c e =
    let pool = c.args.self.now in
    record {
      whole = λ x. (λ h. h, λ h. h);
      free = λ x. (λ h. h, λ h. h);
      leases = leased_same pool.leases.entries c.insert.new.leases.entries
          (same_list pool.leases.entries c.insert.new.leases.entries c.in-Err.ensures.unchanged);
    }

pub invariant_of-self-in-Ok : goal.invariant_of-self-in-Ok
invariant_of-self-in-Ok g c =
    let pool = c.args.self.now in
    let old = pool.leases.entries in
    let new = c.insert.new.leases.entries in
    let k = c.args.network in
    let more = c.in_default.ensures.added in
    record {
      apart = leases_more old new k c.args.value more pool.apart c.requires.truncated
          (λ x a. ((rest_of pool x).0 (c.requires.free x a)).1);
      within = within_more old new k c.args.value more (IsMember pool.whole) pool.within
          (λ x a. ((rest_of pool x).0 (c.requires.free x a)).0);
      rest = weak (IsIn c.cut.new.self) new (IsMember pool.whole)
          (rest_more old new k c.args.value more (IsMember pool.whole) (IsIn pool.free) (IsIn c.cut.new.self)
          (rest_of pool) c.in-Ok.ensures.cut.free);
    }

pub returns-in-Ok-clause-taken : goal.returns-in-Ok-clause-taken
returns-in-Ok-clause-taken g c =
    let pool = c.args.self.now in
    record {
      was_free = c.requires.free;
      whole = λ x. (λ h. h, λ h. h);
      free = c.in-Ok.ensures.cut.free;
      leases = leased_more pool.leases.entries c.insert.new.leases.entries c.args.network c.args.value
          c.in_default.ensures.added;
    }

pub invariant_of-self-in-Err-cut : goal.invariant_of-self-in-Err-cut
invariant_of-self-in-Err-cut g c =
    let pool = c.args.self.now in
    let old = pool.leases.entries in
    let mid = c.insert.new.leases.entries in
    let new = c.remove.new.leases.entries in
    let none =
    free_not_leased old (IsMember pool.whole) (IsIn pool.free) c.args.network (rest_of pool) c.requires.free in
    let same : AreSame old new =
    more_and_less old mid new c.args.network c.args.value none c.in_default.ensures.added c.remove.ensures.removed in
    record {
      apart = leases_same old new same pool.apart;
      within = within_same old new same (IsMember pool.whole) pool.within;
      rest = weak (IsIn c.cut.new.self) new (IsMember pool.whole)
          (rest_same old new same (IsMember pool.whole) (IsIn c.cut.new.self)
          (rest_free (IsIn pool.free) old (IsMember pool.whole) (IsIn c.cut.new.self) c.in-Err-cut.ensures.same
          (rest_of pool)));
    }

pub unreachable-requires : goal.unreachable-requires
unreachable-requires g c =
    c.in-None.ensures.none (c.args.value, (c.in_default.ensures.added c.args.network c.args.value).1 (inr (refl, refl)))

pub returns-in-Some-clause-unchanged : goal.returns-in-Some-clause-unchanged
returns-in-Some-clause-unchanged g c e =
    let pool = c.args.self.now in
    let old = pool.leases.entries in
    let mid = c.insert.new.leases.entries in
    let new = c.remove.new.leases.entries in
    let none =
    free_not_leased old (IsMember pool.whole) (IsIn pool.free) c.args.network (rest_of pool) c.requires.free in
    let same : AreSame old new =
    more_and_less old mid new c.args.network c.args.value none c.in_default.ensures.added c.remove.ensures.removed in
    record {
      whole = λ x. (λ h. h, λ h. h);
      free = c.in-Err-cut.ensures.same;
      leases = leased_same old new same;
    }

pub returns-in-Some-clause-value : goal.returns-in-Some-clause-value
returns-in-Some-clause-value g c =
    let pool = c.args.self.now in
    let old = pool.leases.entries in
    let none =
    free_not_leased old (IsMember pool.whole) (IsIn pool.free) c.args.network (rest_of pool) c.requires.free in
    value_of_more old c.insert.new.leases.entries c.args.network c.args.value c.in-Some.value none
    c.in_default.ensures.added c.in-Some.ensures.was
