-- The entries so far are the places of the first networks of their buckets.
use Rattle.ipnet_routes.specs.Routes.{ip_networks}
use Rattle.ipnet_routes.proofs.TableRowLaws.{AreStartsUpTo}
use Rattle.ipnet_routes.proofs.routes.image.written.starts.Given as goal

abbrev pub invariant-loop-bucket : goal.invariant-loop-bucket
invariant-loop-bucket l =
    AreStartsUpTo (ip_networks l.routes) l.buckets.ipv4_bits l.buckets.ipv6_bits l.bucket l.starts.items
