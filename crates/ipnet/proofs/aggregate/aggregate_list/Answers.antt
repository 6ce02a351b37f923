-- The front that is left covers the same addresses as the list, so it is the aggregate of the list, and all facts about
-- aggregates follow.
use Rattle.std.proofs.Common.{◌≡◌, All, map, take, drop, length, sym, subst, arith}
use Rattle.ipnet_base.specs.Network.{IsNetwork, IsTruncated}
use Rattle.ipnet_base.specs.Blocks.{IsCoveredBy, HaveSameCover}
use Rattle.ipnet_base.proofs.AggregateLaws.{IsCanonicalAggregateOf-from_aggregate}
use Rattle.ipnet_base.proofs.UniqueLaws.{AreMaximalBlocks-same_set}
use Rattle.ipnet_base.proofs.ListLaws.{All-read}
use Rattle.ipnet.proofs.FrontLaws.{front_kept}
use Rattle.ipnet.proofs.aggregate.aggregate_list.Goals as goal

pub sort_and_sweep-requires : goal.sort_and_sweep-requires
sort_and_sweep-requires g c =
    let joined = c.truncate_and_join-kept.new.list in
    let kept : c.truncate.new.self.items ≡ take c.truncate_and_join-kept.result joined =
    front_kept c.truncate.new.self.items joined (drop (length joined) c.args.networks.now.items)
    c.truncate_and_join-kept.result c.args.networks.now.len c.truncate.ensures.items (omega arith) (omega arith) in
    subst (λ z. All IsTruncated (map g.N.Net.network z)) (sym kept) c.truncate_and_join-kept.ensures.truncated

pub returns : goal.returns
returns g c =
    let joined = c.truncate_and_join-kept.new.list in
    let kept : c.truncate.new.self.items ≡ take c.truncate_and_join-kept.result joined =
    front_kept c.truncate.new.self.items joined (drop (length joined) c.args.networks.now.items)
    c.truncate_and_join-kept.result c.args.networks.now.len c.truncate.ensures.items (omega arith) (omega arith) in
    let net = g.N.Net.network in
    let given = c.args.networks.now.items in
    let left = map net c.truncate.new.self.items in
    let answer = map net c.sort_and_sweep.new.list.items in
    let same : HaveSameCover left (map net given) =
    subst (λ z. HaveSameCover (map net z) (map net given)) (sym kept)
    (subst (λ z. HaveSameCover (map net (take c.truncate_and_join-kept.result c.truncate_and_join-kept.new.list))
    (map net z)) c.as_mut_slice.ensures.value c.truncate_and_join-kept.ensures.addresses) in
    IsCanonicalAggregateOf-from_aggregate (map net given) answer (All-read IsNetwork net g.met.N.Net.valid given)
    (AreMaximalBlocks-same_set (IsCoveredBy left) (IsCoveredBy (map net given)) 0 answer same c.sort_and_sweep.ensures)
