-- The list has the payloads of the networks so far that cover the route.
use Rattle.ipnet.specs.NetworkOf.{ip_network}
use Rattle.ipnet_origins.specs.OriginsOf.{payloads_of}
use Rattle.ipnet_origins.proofs.WalkLaws.{HasCovering}
use Rattle.ipnet_origins.proofs.origins.OriginTable.covering.Given as goal

abbrev pub invariant-loop-route : goal.invariant-loop-route
invariant-loop-route l = record {
  can_next : (goal.iterator-loop-route).can_next l.route-iterator;
  is_finite : (goal.iterator-loop-route).is_finite l.route-iterator;
  has : HasCovering (payloads_of l.self) (ip_network l.network) l.yielded l.covering.items;
}
