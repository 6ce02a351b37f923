-- As in the search of a table, if the bytes hold one.
use Rattle.std.proofs.Common.{ℕ, ◌-◌, ◌≤◌, List}
use Rattle.ipnet.specs.NetworkOf.{ip_network}
use Rattle.ipnet_routes.specs.Routes.{Route, networks_of}
use Rattle.ipnet_routes.specs.TableImages.{route_count, IsTableIn}
use Rattle.ipnet_routes.proofs.RouteLaws.{IsPlaceBetween}
use Rattle.ipnet_routes.proofs.routes.image.stored_table.StoredTable.place_after.Given as goal

abbrev pub invariant-loop-low : goal.invariant-loop-low
invariant-loop-low l = record {
  ordered : l.low ≤ l.high;
  within : l.high ≤ route_count l.self.bytes.now;
  search : (t : List (Route ℕ)) → IsTableIn l.self.bytes.now t
      → IsPlaceBetween (networks_of t) (ip_network l.network) l.low l.high;
}

abbrev pub decreases-loop-low : goal.decreases-loop-low
decreases-loop-low l = l.high - l.low
