-- The lease is of the truncation, and no other network stands for it.
use Rattle.std.proofs.Common.{refl, subst, IfOk}
use Rattle.ipnet_base.proofs.NetworkLaws.{truncation_from_relation}
use Rattle.ipnet_base.proofs.ResultLaws.{true_gives, false_gives}
use Rattle.ipnet.specs.NetworkOf.{ip_network}
use Rattle.ipnet_pools.specs.PoolOf.{IsReleased}
use Rattle.ipnet_pools.proofs.PoolLaws.{has_leased}
use Rattle.ipnet_pools.proofs.pool.IpPool.release.Goals as goal

pub returns-then-not-contains-clause-not_leased : goal.returns-then-not-contains-clause-not_leased
returns-then-not-contains-clause-not_leased g c = (
  λ _ v leased. false_gives c.contains.result c.contains.ensures c.if-not-contains.true
      (has_leased c.args.self.now.leases.entries c.trunc-network.result (ip_network c.args.network.now) v
      c.trunc-network.ensures leased),
  λ _. refl,
)

pub returns-clause-released : goal.returns-clause-released
returns-clause-released g c =
    subst (λ z. IfOk c.end.result (λ v. IsReleased c.args.self.now c.end.new.self z v))
    (truncation_from_relation (ip_network c.trunc-network.result) (ip_network c.args.network.now)
    c.trunc-network.ensures)
    c.end.ensures.released

pub returns-clause-not_leased : goal.returns-clause-not_leased
returns-clause-not_leased g c = (
  λ e. let other = c.end.ensures.error (cc) in absurd (cc),
  λ none.
      let has = true_gives c.contains.result c.contains.ensures c.if-not-contains.false in
      absurd (none has.0 (
        c.trunc-network.result,
        truncation_from_relation (ip_network c.trunc-network.result) (ip_network c.args.network.now)
            c.trunc-network.ensures,
        has.1,
      )),
)
