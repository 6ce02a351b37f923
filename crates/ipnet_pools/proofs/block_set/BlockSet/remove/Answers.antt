-- The set has one key less.
use Rattle.std.proofs.Common.{◌≡◌, ◌↔◌, subst, Contains}
use Rattle.ipnet_base.specs.Network.{Network}
use Rattle.ipnet.specs.NetworkOf.{ip_network}
use Rattle.ipnet_pools.specs.BlockKeys.{networks_of_keys}
use Rattle.ipnet_pools.proofs.KeyLaws.{keys_after_remove, networks_after_remove}
use Rattle.ipnet_pools.proofs.block_set.BlockSet.remove.Goals as goal

pub invariant_of-self : goal.invariant_of-self
invariant_of-self c = record {
  exact = keys_after_remove _ (λ a b. (c.ip_nets_compare_by_network.ensures.compare a b).order) c.args.self.now.keys
      c.remove.new.self c.new-key.result c.remove.ensures.updates c.args.self.now.exact;
}

pub returns : goal.returns
returns c =
    let old = c.args.self.now.keys in
    let new = c.remove.new.self in
    subst (λ z. (n : Network) → Contains (networks_of_keys new.keys) n
    ↔ (Contains (networks_of_keys old.keys) n × ¬ (n ≡ ip_network z))) c.new-key.ensures.network
    (networks_after_remove _ (λ a b. (c.ip_nets_compare_by_network.ensures.compare a b).order) old new c.new-key.result
    c.remove.ensures.updates c.new-key.ensures.key c.args.self.now.exact)
