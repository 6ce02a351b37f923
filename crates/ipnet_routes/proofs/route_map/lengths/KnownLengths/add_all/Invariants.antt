-- The lengths of the routes so far are known, and what was known is.
use Rattle.std.proofs.Common.{List, take}
use Rattle.ipnet_base.specs.Network.{Network}
use Rattle.ipnet_routes.specs.Routes.{ip_networks}
use Rattle.ipnet_routes.specs.RouteLengths.{AreKnown}
use Rattle.ipnet_routes.proofs.route_map.lengths.KnownLengths.add_all.Given as goal

abbrev pub invariant-loop-index : goal.invariant-loop-index
invariant-loop-index g l = record {
  keeps : (networks : List Network) → AreKnown l.fn.self.masks.items l.fn.self.width networks
      → AreKnown l.self.masks.items l.self.width networks;
  known : AreKnown l.self.masks.items l.self.width (ip_networks (take l.index l.routes));
}
