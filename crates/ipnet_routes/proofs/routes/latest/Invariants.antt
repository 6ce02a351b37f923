-- From the routes read so far, the last one of each network is kept.
use Rattle.std.proofs.Common.{◌↔◌, Contains}
use Rattle.ipnet_base.specs.Blocks.{IsAscending}
use Rattle.ipnet_routes.specs.Routes.{Route, ip_routes, ip_networks, IsLatest}
use Rattle.ipnet_routes.proofs.routes.latest.Given as goal

abbrev pub invariant-loop-route : goal.invariant-loop-route
invariant-loop-route g l = record {
  ascending : IsAscending (ip_networks l.kept.items);
  members : (route : Route _) → Contains (ip_routes l.kept.items) route ↔ IsLatest (ip_routes l.yielded) route;
}
