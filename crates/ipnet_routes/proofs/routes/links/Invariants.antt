use Rattle.std.proofs.Common.{◌≡◌, length}
use Rattle.ipnet_routes.specs.Routes.{ip_networks}
use Rattle.ipnet_routes.specs.RouteSteps.{AreLinks}
use Rattle.ipnet_routes.proofs.routes.links.Given as goal

abbrev pub invariant-loop-index : goal.invariant-loop-index
invariant-loop-index g l = record {
  size : length l.links.items ≡ l.index;
  links : AreLinks (ip_networks l.routes) l.links.items;
}
