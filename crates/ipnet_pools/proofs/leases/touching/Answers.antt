-- The last lease that begins before the network ends touches it, or no lease does.
use Rattle.std.proofs.Common.{sym, ap, ◌∙◌, subst, inl, inr, IfNone}
use Rattle.ipnet_base.specs.Address.{Address, width, ip_address}
use Rattle.ipnet_base.specs.Network.{InBlock, AreDisjoint}
use Rattle.ipnet_base.proofs.BlockLaws.{own, own_in}
use Rattle.ipnet_base.proofs.NestingLaws.{nested_or_disjoint}
use Rattle.ipnet_base.proofs.ResultLaws.{true_gives, false_gives}
use Rattle.ipnet.specs.NetworkOf.{ip_network}
use Rattle.ipnet_pools.specs.Leases.{IsInLease}
use Rattle.ipnet_pools.proofs.TouchLaws.{none_begins, none_touches}
use Rattle.ipnet_pools.proofs.leases.touching.Goals as goal
use Rattle.ipnet_pools.proofs.leases.touching.Goals.{then-contains-via-then-contains}
use Rattle.ipnet_pools.proofs.leases.touching.Goals.{then-contains-via-else-contains+then-contains-2}

pub returns-in_err-lease-clause-none : goal.returns-in_err-lease-clause-none
returns-in_err-lease-clause-none g c =
    let n = ip_network c.args.network.now in
    let z = ip_address c.broadcast.result in
    let is = c.new_assert-last.ensures ∙ ap (λ p. record { family = z.family; number = z.number; prefix_len = p })
    (c.max_prefix_len.ensures ∙ ap width (sym c.broadcast.ensures.inside.same_family)) in
    subst (λ r. IfNone r ((x : Address) → InBlock n x → ¬ (IsInLease c.args.leases.now.entries x)))
    (sym c.from_residual.ensures)
    (none_begins c.args.leases.now.entries c.requires n z c.broadcast.ensures c.new_assert-last.result is
    c.in_err-lease.ensures.none)

pub returns-then-contains-clause-found : goal.returns-then-contains-clause-found
returns-then-contains-clause-found g c =
    let n = ip_network c.args.network.now in
    let m = ip_network c.in_ok-lease.lease.now in (
      c.in_ok-lease.ensures.found.0,
      λ apart. elim c.then-contains.branch [
        | then-contains-via-then-contains w ↦
            let sub = true_gives c.contains.result c.contains.ensures w.if-contains.true in
            apart (own m) (own_in m) (sub (own m) (own_in m))
        | then-contains-via-else-contains+then-contains-2 w ↦
            let sub =
            true_gives w.contains-else-contains.result w.contains-else-contains.ensures w.if-contains-2.true in
            apart (own n) (sub (own n) (own_in n)) (own_in n)
      ],
    )

pub returns-clause-none : goal.returns-clause-none
returns-clause-none g c =
    let n = ip_network c.args.network.now in
    let m = ip_network c.in_ok-lease.lease.now in
    let z = ip_address c.broadcast.result in
    let is = c.new_assert-last.ensures ∙ ap (λ p. record { family = z.family; number = z.number; prefix_len = p })
    (c.max_prefix_len.ensures ∙ ap width (sym c.broadcast.ensures.inside.same_family)) in
    let apart : AreDisjoint m n = elim (nested_or_disjoint m n) [
      | inl s ↦ absurd (false_gives c.contains.result c.contains.ensures c.if-contains.false s)
      | inr (inl s) ↦
          absurd (false_gives c.contains-else-contains.result c.contains-else-contains.ensures c.if-contains-2.false s)
      | inr (inr d) ↦ d
    ] in
    none_touches c.args.leases.now.entries c.requires n z c.broadcast.ensures c.new_assert-last.result is
    c.in_ok-lease.lease.now (c.in_ok-lease.value.now, c.in_ok-lease.ensures.found.0) c.in_ok-lease.ensures.found.1 apart
