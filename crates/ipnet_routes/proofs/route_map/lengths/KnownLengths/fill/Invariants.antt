-- The lengths of the chunks so far are known.
use Rattle.std.proofs.Common.{take}
use Rattle.ipnet_routes.specs.Routes.{ip_networks}
use Rattle.ipnet_routes.specs.RouteMapSteps.{all_of}
use Rattle.ipnet_routes.specs.RouteLengths.{AreKnown}
use Rattle.ipnet_routes.proofs.route_map.lengths.KnownLengths.fill.Given as goal

abbrev pub invariant-loop-index : goal.invariant-loop-index
invariant-loop-index g l =
    AreKnown l.self.masks.items l.self.width (ip_networks (all_of (take l.index l.chunks)))
