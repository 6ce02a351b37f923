-- No payload of a network so far matches the route, and it is known whether one covers it.
use Rattle.ipnet.specs.NetworkOf.{ip_network}
use Rattle.ipnet_origins.specs.Origins.{IsMatched}
use Rattle.ipnet_origins.specs.OriginsOf.{payloads_of}
use Rattle.ipnet_origins.proofs.WalkLaws.{NoneOf, IsCoveredSoFar}
use Rattle.ipnet_origins.proofs.origins.OriginTable.validity.Given as goal

abbrev pub invariant-loop-route : goal.invariant-loop-route
invariant-loop-route l = record {
  can_next : (goal.iterator-loop-route).can_next l.route-iterator;
  is_finite : (goal.iterator-loop-route).is_finite l.route-iterator;
  none : NoneOf (IsMatched (ip_network l.network) l.origin) (payloads_of l.self) l.yielded;
  covered : IsCoveredSoFar (payloads_of l.self) (ip_network l.network) l.yielded l.is_covered;
}
