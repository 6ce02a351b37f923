-- The entries so far are the places of the first networks of their buckets.
use Rattle.std.proofs.Common.{ℕ, ◌+◌, ◌*◌, ◌<◌, List}
use Rattle.ipnet_sets.specs.Images.{number_from}
use Rattle.ipnet_routes.specs.Routes.{Route, networks_of}
use Rattle.ipnet_routes.specs.RouteSteps.{IsPlaceOf}
use Rattle.ipnet_routes.specs.TableImages.{route_count, index_place, bucket_start, AreRoutesIn}
use Rattle.ipnet_routes.proofs.routes.image.stored_table.StoredTable.has_index.Given as goal

abbrev pub invariant-loop-bucket : goal.invariant-loop-bucket
invariant-loop-bucket l = (t : List (Route ℕ)) → AreRoutesIn l.self.bytes.now (route_count l.self.bytes.now) t
    → (b : ℕ) → b < l.bucket
    → IsPlaceOf (networks_of t) (bucket_start l.buckets.ipv4_bits l.buckets.ipv6_bits b)
    (number_from 4 l.self.bytes.now (index_place l.self.bytes.now + b * 4))
