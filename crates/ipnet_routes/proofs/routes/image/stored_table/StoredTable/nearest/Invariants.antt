-- As in the search of a table, if the bytes hold one.
use Rattle.std.proofs.Common.{ℕ, ◌<◌, ◌≤◌, List, Contains}
use Rattle.ipnet_base.specs.Network.{Network}
use Rattle.ipnet_base.specs.Stack.{IsBeforeOrEqual}
use Rattle.ipnet.specs.NetworkOf.{ip_network}
use Rattle.ipnet_routes.specs.Routes.{Route, networks_of}
use Rattle.ipnet_routes.specs.TableImages.{AreRoutesIn}
use Rattle.ipnet_routes.proofs.RouteLaws.{IsSearchedTo}
use Rattle.ipnet_routes.proofs.routes.image.stored_table.StoredTable.nearest.Given as goal

abbrev pub invariant-loop-place : goal.invariant-loop-place
invariant-loop-place l = record {
  within : l.place ≤ l.limit;
  search : (count : ℕ) (t : List (Route ℕ)) → AreRoutesIn l.self.bytes.now count t → l.limit ≤ count
      → ((k : Network) (c : Contains (networks_of t) k) → c.0 < l.limit → IsBeforeOrEqual k (ip_network l.network))
      → IsSearchedTo (networks_of t) (ip_network l.network) l.limit l.place;
}

abbrev pub decreases-loop-place : goal.decreases-loop-place
decreases-loop-place l = l.place
