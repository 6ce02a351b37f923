-- The list covers the same addresses as the input, so its aggregate is the aggregate of the input, and all facts about
-- aggregates follow.
use Rattle.std.proofs.Common.{map, length, ap, arith}
use Rattle.std.proofs.lemmas.List.{length-map, nil_from_length}
use Rattle.ipnet_base.specs.Network.{IsNetwork}
use Rattle.ipnet_base.specs.Blocks.{IsCoveredBy}
use Rattle.ipnet_base.proofs.AggregateLaws.{IsCanonicalAggregateOf-from_aggregate}
use Rattle.ipnet_base.proofs.UniqueLaws.{AreMaximalBlocks-same_set}
use Rattle.ipnet_base.proofs.ListLaws.{All-read}
use Rattle.ipnet.proofs.aggregate.aggregated.Goals as goal

pub returns-clause-aggregate : goal.returns-clause-aggregate
returns-clause-aggregate g c =
    let net = g.N.Net.network in
    let given = map net c.args.networks.now.items in
    let list = map net c.in_ok-list.list.items in
    let answer = map net c.sort_and_sweep.new.list.items in
    IsCanonicalAggregateOf-from_aggregate given answer
    (All-read IsNetwork net g.met.N.Net.valid c.args.networks.now.items)
    (AreMaximalBlocks-same_set (IsCoveredBy list) (IsCoveredBy given) 0 answer c.in_ok-list.ensures.addresses
    c.sort_and_sweep.ensures)

-- an aggregate is no longer than its list, so the aggregate of no networks is empty
pub returns-clause-empty : goal.returns-clause-empty
returns-clause-empty g c e =
    let net = g.N.Net.network in
    let answer = c.sort_and_sweep.new.list.items in
    let shorter = (returns-clause-aggregate g c).no_longer in
    nil_from_length answer
    (omega (arith, shorter, length-map c.args.networks.now.items net, length-map answer net, ap length e))
