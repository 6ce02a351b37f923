-- Each network is compared with those before it.
use Rattle.ipnet_base.specs.Network.{AreDisjoint}
use Rattle.ipnet_base.specs.Blocks.{ArePairwiseDisjoint}
use Rattle.std.proofs.Common.{map, refl, subst, arith}
use Rattle.std.proofs.lemmas.List.{take_all}
use Rattle.ipnet_base.proofs.ResultLaws.{true_gives, false_gives, never}
use Rattle.ipnet.specs.NetworkOf.{ip_network}
use Rattle.ipnet.proofs.DisjointLaws.{pairs_more, all_before}
use Rattle.ipnet.proofs.disjoint.are_disjoint.Goals as goal

pub returns-then-not-is_apart_from_first : goal.returns-then-not-is_apart_from_first
returns-then-not-is_apart_from_first c =
    never (ArePairwiseDisjoint (map ip_network c.args.networks.now))
    (λ pairs. false_gives c.is_apart_from_first.result c.is_apart_from_first.ensures c.if-not-is_apart_from_first.true
    (all_before AreDisjoint ip_network c.args.networks.now c.loop-index.index c.index-networks-index.result
    (omega arith) c.index-networks-index.is pairs))

pub loop-index-preserved : goal.loop-index-preserved
loop-index-preserved c =
    pairs_more AreDisjoint ip_network c.args.networks.now c.loop-index.index c.index-networks-index.result (omega arith)
    c.index-networks-index.is c.loop-index.invariant
    (true_gives c.is_apart_from_first.result c.is_apart_from_first.ensures c.if-not-is_apart_from_first.false)

pub returns : goal.returns
returns c = (
  λ h. subst (λ z. ArePairwiseDisjoint (map ip_network z))
      (take_all c.loop-index.index c.args.networks.now (omega arith))
      c.loop-index.invariant,
  λ pairs. refl,
)
