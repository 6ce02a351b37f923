use Rattle.std.proofs.Common.{◌↔◌, map, Any, arith}
use Rattle.std.proofs.lemmas.Result.{IfOk-weaker}
use Rattle.ipnet_base.specs.Address.{Address}
use Rattle.ipnet.specs.NetworkOf.{ip_network}
use Rattle.ipnet_base.specs.Network.{InBlock}
use Rattle.ipnet_sets.specs.Members.{IsMember}
use Rattle.ipnet_sets.specs.Pushed.{IsPushed}
use Rattle.ipnet_sets.proofs.ManyLaws.{first_none, first_more, first_of_none, first_whole, both_ways}
use Rattle.ipnet_sets.proofs.set.IpSet.from_networks.Goals as goal

pub loop-network-init : goal.loop-network-init
loop-network-init c =
    first_none InBlock (map ip_network c.args.networks.now) (IsPushed c.new-builder.result) c.new-builder.ensures

pub loop-network-preserved : goal.loop-network-preserved
loop-network-preserved c =
    first_more ip_network InBlock c.args.networks.now c.loop-network.network-index c.network-item.result
    (IsPushed c.loop-network.builder) (IsPushed c.push_network.new.self) (omega arith) c.network-item.is
    c.loop-network.invariant c.in_ok-push_network.ensures.added

pub returns-clause-empty : goal.returns-clause-empty
returns-clause-empty c = λ none.
    c.into_set.ensures.empty (first_of_none ip_network InBlock c.args.networks.now c.loop-network.network-index
    (IsPushed c.loop-network.builder) none c.loop-network.invariant)

pub returns-clause-members : goal.returns-clause-members
returns-clause-members c =
    let builder = c.loop-network.builder in
    IfOk-weaker c.into_set.result (λ s. (x : Address) → IsMember s x ↔ IsPushed builder x)
    (λ s. (x : Address) → IsMember s x ↔ Any (λ n. InBlock n x) (map ip_network c.args.networks.now))
    (λ s h x. both_ways (h x)
    (first_whole ip_network InBlock c.args.networks.now c.loop-network.network-index (IsPushed builder)
    (omega arith) c.loop-network.invariant x)) c.into_set.ensures.members
