-- The set finds the key of a network if and only if it has the network.
use Rattle.std.proofs.Common.{sym, subst, ◌↔◌, IsTrue, Contains}
use Rattle.ipnet.specs.NetworkOf.{ip_network}
use Rattle.ipnet_pools.specs.BlocksOf.{blocks_of}
use Rattle.ipnet_pools.proofs.KeyLaws.{has_network}
use Rattle.ipnet_pools.proofs.block_set.BlockSet.contains.Goals as goal

pub returns : goal.returns
returns c =
    let set = c.args.self.now in
    subst (λ z. IsTrue c.contains.result ↔ Contains (blocks_of set) (ip_network z)) c.new-key.ensures.network
    (subst (λ b. IsTrue b ↔ Contains (blocks_of set) (ip_network c.new-key.result.network)) (sym c.contains.ensures)
    (has_network _ (λ a b. (c.ip_nets_compare_by_network.ensures.compare a b).order) set.keys c.new-key.result set.exact
    c.new-key.ensures.key))
