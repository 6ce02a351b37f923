-- Each turn finds the place of one more first network.
use Rattle.std.proofs.Common.{subst}
use Rattle.ipnet_routes.specs.Routes.{ip_networks}
use Rattle.ipnet_routes.specs.RouteSteps.{IsPlaceOf}
use Rattle.ipnet_routes.proofs.TableRowLaws.{starts_more}
use Rattle.ipnet_routes.proofs.routes.image.written.starts.Goals as goal

pub loop-bucket-preserved : goal.loop-bucket-preserved
loop-bucket-preserved c =
    let networks = ip_networks c.args.routes.now in
    starts_more networks c.args.buckets.ipv4_bits c.args.buckets.ipv6_bits c.loop-bucket.bucket
    c.loop-bucket.starts.items c.push.new.self.items c.place_of-place.result
    (subst (λ n. IsPlaceOf networks n c.place_of-place.result) c.start_of-network.ensures c.place_of-place.ensures)
    c.in_ok-push.ensures.items c.loop-bucket.invariant
