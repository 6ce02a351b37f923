-- The first lease that shares an address with the network, or none does.
use Rattle.std.proofs.Common.{◌∙◌, sym, subst, inl, inr}
use Rattle.ipnet_base.specs.Network.{InBlock, AreDisjoint}
use Rattle.ipnet_base.proofs.BlockLaws.{own, own_in}
use Rattle.ipnet_base.proofs.NestingLaws.{nested_or_disjoint}
use Rattle.ipnet_base.proofs.ResultLaws.{true_gives, false_gives}
use Rattle.ipnet.specs.NetworkOf.{ip_network}
use Rattle.ipnet_pools.specs.Leases.{HasAddressOf}
use Rattle.ipnet_pools.proofs.WayLaws.{AreLeftToScan, scan_begins, scan_goes_on, scan_finds, scan_ends}
use Rattle.ipnet_pools.proofs.leases.first_touching.Goals as goal
use Rattle.ipnet_pools.proofs.leases.first_touching.Goals.{then-contains-via-then-contains}
use Rattle.ipnet_pools.proofs.leases.first_touching.Goals.{then-contains-via-else-contains+then-contains-2}

pub loop-lease-init : goal.loop-lease-init
loop-lease-init g c =
    let leases = c.args.leases.now.entries in
    let InSet = InBlock (ip_network c.args.network.now) in
    subst (AreLeftToScan leases InSet)
    (sym (c.into_iter-lease-iterator.ensures.into_iter_gives ∙ c.iter-lease-items.ensures.rest))
    (scan_begins leases InSet c.are_ascending.ensures)

pub returns-then-contains-clause-found : goal.returns-then-contains-clause-found
returns-then-contains-clause-found g c =
    let n = ip_network c.args.network.now in
    let m = ip_network c.in-Some.lease.now in
    let shared : HasAddressOf (InBlock n) c.in-Some.lease.now = elim c.then-contains.branch [
      | then-contains-via-then-contains w ↦
          let sub = true_gives c.contains.result c.contains.ensures w.if-contains.true in
          (own m, own_in m, sub (own m) (own_in m))
      | then-contains-via-else-contains+then-contains-2 w ↦
          let sub =
          true_gives w.contains-else-contains.result w.contains-else-contains.ensures w.if-contains-2.true in
          (own n, sub (own n) (own_in n), own_in n)
    ] in
    scan_finds c.args.leases.now.entries (InBlock n) c.loop-lease.lease-iterator c.next.new.self c.in-Some.lease.now
    c.in-Some.field-0-1.now c.in-Some.ensures.steps c.loop-lease.invariant shared

pub loop-lease-preserved : goal.loop-lease-preserved
loop-lease-preserved g c =
    let n = ip_network c.args.network.now in
    let m = ip_network c.in-Some.lease.now in
    let apart : AreDisjoint m n = elim (nested_or_disjoint m n) [
      | inl s ↦ absurd (false_gives c.contains.result c.contains.ensures c.if-contains.false s)
      | inr (inl s) ↦
          absurd (false_gives c.contains-else-contains.result c.contains-else-contains.ensures c.if-contains-2.false s)
      | inr (inr d) ↦ d
    ] in
    scan_goes_on c.args.leases.now.entries (InBlock n) c.loop-lease.lease-iterator c.next.new.self c.in-Some.lease.now
    c.in-Some.field-0-1.now c.in-Some.ensures.steps c.loop-lease.invariant (λ (x, a, b). apart x a b)

pub returns-clause-none : goal.returns-clause-none
returns-clause-none g c =
    scan_ends c.args.leases.now.entries (InBlock (ip_network c.args.network.now)) c.loop-lease.lease-iterator
    c.in-None.ensures.steps.0 c.loop-lease.invariant
