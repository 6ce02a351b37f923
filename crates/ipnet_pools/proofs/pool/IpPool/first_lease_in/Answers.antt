-- The first network of the set that shares an address with a lease shares one with the first lease in the way.
use Rattle.std.proofs.Common.{sym, subst}
use Rattle.ipnet.specs.NetworkOf.{ip_network}
use Rattle.ipnet_sets.specs.Members.{IsMember}
use Rattle.ipnet_sets.specs.NetworksLeft.{networks_left}
use Rattle.ipnet_sets.proofs.SetEqualLaws.{member_or_not}
use Rattle.ipnet_pools.proofs.KeepLaws.{rest_of}
use Rattle.ipnet_pools.proofs.WayLaws.{AreLeftToSearch, search_begins, search_goes_on, search_finds, search_ends}
use Rattle.ipnet_pools.proofs.pool.IpPool.first_lease_in.Goals as goal

pub loop-network-init : goal.loop-network-init
loop-network-init g c =
    let leases = c.args.self.now.leases.entries in
    let S = IsMember c.args.set.now in
    subst (λ it. AreLeftToSearch leases S (networks_left it)) (sym c.into_iter-network-iterator.ensures.into_iter_gives)
    (search_begins leases S (member_or_not c.args.set.now) (λ x m. m.fits)
    (networks_left c.iter_networks-network-items.result) c.iter_networks-network-items.ensures)

pub returns-in-Some-first_touching-clause-found : goal.returns-in-Some-first_touching-clause-found
returns-in-Some-first_touching-clause-found g c =
    let pool = c.args.self.now in
    search_finds pool.leases.entries (IsMember c.args.set.now) (networks_left c.loop-network.network-iterator)
    (networks_left c.next.new.self) (ip_network c.in-Some.network) c.in-Some.ensures.steps c.loop-network.invariant
    pool.apart c.in-Some-first_touching.lease c.in-Some-first_touching.ensures.found

pub loop-network-preserved : goal.loop-network-preserved
loop-network-preserved g c =
    search_goes_on c.args.self.now.leases.entries (IsMember c.args.set.now)
    (networks_left c.loop-network.network-iterator) (networks_left c.next.new.self) (ip_network c.in-Some.network)
    c.in-Some.ensures.steps c.loop-network.invariant c.in_default.ensures.none

pub returns-clause-none : goal.returns-clause-none
returns-clause-none g c = λ x member of_pool.
    let pool = c.args.self.now in
    (rest_of pool x).1 (
      of_pool,
      search_ends pool.leases.entries (IsMember c.args.set.now) (networks_left c.loop-network.network-iterator)
          c.in-None.ensures.steps.0 c.loop-network.invariant x member,
    )
