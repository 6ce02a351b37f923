-- After i turns the list covers the first i networks, whose host bits do not matter for that.
use Rattle.std.proofs.Common.{map, ◌∙◌, sym, ap, subst, arith}
use Rattle.std.proofs.lemmas.List.{length-map, get_or-map}
use Rattle.ipnet_base.specs.Network.{IsTruncated}
use Rattle.ipnet_base.specs.Blocks.{HaveSameCover}
use Rattle.ipnet_base.proofs.NetworkLaws.{IsTruncated-truncation}
use Rattle.ipnet_base.proofs.AddingLaws.{list_of_first_more, list_of_first_whole}
use Rattle.ipnet_base.specs.Stack.{IsListWith}
use Rattle.ipnet.proofs.aggregate.truncated_and_joined.Goals as goal

pub push_or_join-requires-clause-network : goal.push_or_join-requires-clause-network
push_or_join-requires-clause-network g c =
    let net = g.N.Net.network in
    subst IsTruncated (sym c.truncated.ensures) (IsTruncated-truncation (net c.network-item.result))

pub loop-network-preserved : goal.loop-network-preserved
loop-network-preserved g c =
    let net = g.N.Net.network in
    let items = c.deref-network-items.result.now in
    let i = c.loop-network.network-index in
    let item = c.network-item.result in
    list_of_first_more (map net items) i (net item) (map net c.loop-network.list.items)
    (map net c.push_or_join.new.list.items)
    (omega (arith, length-map items net))
    (get_or-map net items i item (net item) (omega arith) ∙ ap net (sym c.network-item.is))
    c.loop-network.invariant
    (subst (λ z. IsListWith (map net c.loop-network.list.items) z (map net c.push_or_join.new.list.items))
    c.truncated.ensures c.in_ok-push_or_join.ensures)

pub returns-clause-addresses : goal.returns-clause-addresses
returns-clause-addresses g c =
    let net = g.N.Net.network in
    let items = c.deref-network-items.result.now in
    subst (λ z. HaveSameCover (map net c.loop-network.list.items) (map net z)) c.deref-network-items.ensures.value
    (list_of_first_whole (map net items) c.loop-network.network-index (map net c.loop-network.list.items)
    (omega (arith, length-map items net)) c.loop-network.invariant)
