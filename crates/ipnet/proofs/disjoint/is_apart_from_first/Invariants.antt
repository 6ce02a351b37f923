use Rattle.std.proofs.Common.{All, map, take}
use Rattle.ipnet_base.specs.Network.{AreDisjoint}
use Rattle.ipnet.specs.NetworkOf.{ip_network}
use Rattle.ipnet.proofs.disjoint.is_apart_from_first.Given as goal

abbrev pub invariant-loop-index : goal.invariant-loop-index
invariant-loop-index l = All (λ k. AreDisjoint k (ip_network l.network)) (map ip_network (take l.index l.networks))
