-- The new addresses are in no lease, since the leases lie in the old pool.
use Rattle.std.proofs.Common.{inl}
use Rattle.ipnet_sets.specs.Members.{IsMember}
use Rattle.ipnet_sets.proofs.SetEqualLaws.{member_or_not}
use Rattle.ipnet_pools.specs.FreeOf.{IsIn}
use Rattle.ipnet_pools.proofs.KeepLaws.{rest_of}
use Rattle.ipnet_pools.proofs.PoolLaws.{weak, rest_extended}
use Rattle.ipnet_pools.proofs.pool.IpPool.extend.Goals as goal

pub invariant_of-self-2 : goal.invariant_of-self-2
invariant_of-self-2 g c =
    let pool = c.args.self.now in
    let leases = pool.leases.entries in
    let whole = IsMember c.in_ok-whole.whole in
    let free = IsIn c.add_set.new.self in
    record {
      apart = pool.apart;
      within = λ x h. (c.in_ok-whole.ensures.members x).1 (inl (pool.within x h));
      rest = weak free leases whole (rest_extended leases (IsMember pool.whole) (IsIn pool.free)
          (IsMember c.args.set.now) whole free pool.within (rest_of pool) (member_or_not pool.whole)
          (IsMember c.in_ok-fresh.fresh) c.in_ok-whole.ensures.members c.in_ok-fresh.ensures.members
          c.in_ok-add_set.ensures.added);
    }
