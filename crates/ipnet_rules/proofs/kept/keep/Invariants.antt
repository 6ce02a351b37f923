-- The cells from the place on are looked at, and the painted cells are those that kept rules match.
use Rattle.std.proofs.Common.{◌≤◌, length}
use Rattle.ipnet_rules.specs.KeptSteps.{IsPaintedBy, AreKeptFrom}
use Rattle.ipnet_rules.specs.declared.cells.Family.TheVariants.{Ipv4, Ipv6}
use Rattle.ipnet_rules.proofs.kept.keep.Given as goal

abbrev pub invariant-loop-place : goal.invariant-loop-place
invariant-loop-place l = record {
  within : l.place ≤ length l.list;
  ipv4 : IsPaintedBy Ipv4 l.rules l.ipv4 l.kept.items l.ipv4_painting;
  ipv6 : IsPaintedBy Ipv6 l.rules l.ipv6 l.kept.items l.ipv6_painting;
  from : AreKeptFrom l.rules l.ipv4 l.ipv6 l.list l.place l.kept.items;
}

abbrev pub decreases-loop-place : goal.decreases-loop-place
decreases-loop-place l = l.place
