-- The smallest network around the first and the last network.
use Rattle.std.proofs.Common.{◌-◌, length, refl, sym, subst₂, arith}
use Rattle.std.proofs.lemmas.List.{length-map}
use Rattle.ipnet_base.specs.Network.{IsNetwork}
use Rattle.ipnet_base.proofs.ListLaws.{all_at}
use Rattle.ipnet.specs.NetLaws.{ip_valid}
use Rattle.ipnet.specs.NetworkOf.{ip_network}
use Rattle.ipnet_sets.specs.CommonSupernets.{IsCommonSupernet}
use Rattle.ipnet_routes.specs.Routes.{ip_networks}
use Rattle.ipnet_routes.proofs.RouteLaws.{all_valid, read_at}
use Rattle.ipnet_fewest.proofs.NearLaws.{around_all}
use Rattle.ipnet_fewest.proofs.halves.near_network.Goals as goal

pub returns-in-Some : goal.returns-in-Some
returns-in-Some c =
    let routes = c.args.routes.now in
    let networks = ip_networks routes in
    let f = c.index-routes-0.result in
    let l = c.index-routes-routes.result in
    around_all (ip_network c.args.around.now) (ip_network c.in-Some.near) (ip_network f.0) (ip_network l.0) networks
    (ip_valid c.args.around.now) (λ n d. all_at IsNetwork networks (all_valid routes) n d) c.requires.table
    (read_at (λ r. ip_network r.0) routes 0 f c.requires.some c.index-routes-0.is) refl
    (read_at (λ r. ip_network r.0) routes (length routes - 1) l (omega (arith, c.requires.some))
    c.index-routes-routes.is) (omega (arith, c.requires.some, length-map routes (λ r. ip_network r.0)))
    (subst₂ (λ a b. IsCommonSupernet (ip_network a.0) (ip_network b.0) (ip_network c.in-Some.near))
    (sym c.index-routes-0.is) (sym c.index-routes-routes.is) c.in-Some.ensures.some)
