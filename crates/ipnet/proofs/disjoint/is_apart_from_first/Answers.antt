-- A network of the list that is not apart from this one is among the first.
use Rattle.ipnet_base.specs.Network.{Network, AreDisjoint}
use Rattle.std.proofs.Common.{All, map, take, arith}
use Rattle.ipnet_base.proofs.ListLaws.{all_at}
use Rattle.ipnet_base.proofs.ResultLaws.{false_gives, never}
use Rattle.ipnet.specs.NetworkOf.{ip_network}
use Rattle.ipnet.proofs.DisjointLaws.{in_front}
use Rattle.ipnet.proofs.disjoint.is_apart_from_first.Goals as goal

pub returns-then-not-is_apart : goal.returns-then-not-is_apart
returns-then-not-is_apart c =
    let other = c.index-networks-index.result in
    let front = map ip_network (take c.args.count c.args.networks.now) in
    let IsApart = λ (k : Network). AreDisjoint k (ip_network c.args.network.now) in
    never (All IsApart front)
    (λ all. false_gives c.is_apart.result c.is_apart.ensures c.if-not-is_apart.true
    (all_at IsApart front all (ip_network other)
    (in_front ip_network c.args.networks.now c.args.count c.loop-index.index other (omega arith) (omega arith)
    c.index-networks-index.is)))
