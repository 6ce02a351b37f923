-- The index and the lengths are made of the chunks.
use Rattle.std.proofs.Common.{subst}
use Rattle.ipnet_routes.specs.Routes.{ip_networks}
use Rattle.ipnet_routes.specs.RouteMapSteps.{all_of}
use Rattle.ipnet_routes.specs.RouteLengths.{AreKnown}
use Rattle.ipnet_routes.proofs.route_map.RouteMap.from_chunks.Goals as goal

pub invariant_of-result : goal.invariant_of-result
invariant_of-result g c =
    let lengths = c.fill-2.new.self in
    record {
      table = c.requires.table;
      filled = c.requires.filled;
      known = subst (λ z. AreKnown lengths.masks.items lengths.width (ip_networks (all_of z)))
          c.as_slice-2.ensures.value c.fill-2.ensures;
      size = c.requires.size;
    }
