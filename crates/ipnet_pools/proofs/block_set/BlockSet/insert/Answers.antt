-- The set has one key more.
use Rattle.std.proofs.Common.{◌≡◌, ◌⊎◌, ◌↔◌, subst, Contains}
use Rattle.ipnet_base.specs.Network.{Network}
use Rattle.ipnet.specs.NetworkOf.{ip_network}
use Rattle.ipnet_pools.specs.BlockKeys.{networks_of_keys}
use Rattle.ipnet_pools.proofs.KeyLaws.{keys_after_insert, networks_after_insert}
use Rattle.ipnet_pools.proofs.block_set.BlockSet.insert.Goals as goal

pub invariant_of-self : goal.invariant_of-self
invariant_of-self c = record {
  exact = keys_after_insert _ (λ a b. (c.ip_nets_compare_by_network.ensures.compare a b).order) c.args.self.now.keys
      c.insert.new.self c.new-key.result c.insert.result c.insert.ensures.updates c.insert.ensures.err
      c.new-key.ensures.key c.args.self.now.exact;
}

pub returns-in-Ok-clause-added : goal.returns-in-Ok-clause-added
returns-in-Ok-clause-added c =
    let old = c.args.self.now.keys in
    let new = c.insert.new.self in
    subst (λ z. (n : Network) → Contains (networks_of_keys new.keys) n
    ↔ (Contains (networks_of_keys old.keys) n ⊎ (n ≡ ip_network z))) c.new-key.ensures.network
    (networks_after_insert _ (λ a b. (c.ip_nets_compare_by_network.ensures.compare a b).order) old new c.new-key.result
    c.in-Ok.ensures.updates)
