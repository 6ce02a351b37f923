-- A table's networks ascend, so all networks that enclose one are before it, and their links are known by then.
use Rattle.std.proofs.Common.{◌≡◌, ◌+◌, [], ◌∷◌, ◌++◌, length, get_or, Contains, inr, arith}
use Rattle.std.proofs.Common.{refl, sym, ap, ◌∙◌, subst₂}
use Rattle.std.proofs.lemmas.List.{length-map, length_push, get_or_push, get_or_append_left}
use Rattle.ipnet_base.specs.Network.{IsBefore}
use Rattle.ipnet_base.proofs.ListLaws.{pair_at, one_place}
use Rattle.ipnet.specs.NetworkOf.{ip_network}
use Rattle.ipnet_routes.specs.Routes.{ip_networks}
use Rattle.ipnet_routes.specs.RouteSteps.{IsNearest}
use Rattle.ipnet_routes.proofs.RouteLaws.{value_at, ascending_of, links_more}
use Rattle.ipnet_routes.proofs.routes.links.Goals as goal

pub nearest-link-requires-clause-up_to : goal.nearest-link-requires-clause-up_to
nearest-link-requires-clause-up_to g c k b l =
    let list = c.args.routes.now in
    let d = c.index-routes-index.result in
    let i = c.loop-index.index in
    inr (pair_at IsBefore (ip_networks list) (ascending_of (ip_networks list) c.requires) k
    (ip_network (get_or list i d).0) b (value_at (λ r. ip_network r.0) list i d (omega arith)) l)

pub loop-index-preserved : goal.loop-index-preserved
loop-index-preserved g c =
    let list = c.args.routes.now in
    let d = c.index-routes-index.result in
    let i = c.loop-index.index in
    let old = c.loop-index.links.items in
    let new = c.push.new.self.items in
    let link = c.nearest-link.result in
    let e = ip_network (get_or list i d).0 in
    let size = length-map list (λ r. ip_network r.0) in
    let pushed : new ≡ old ++ link ∷ [] = c.in_ok-push.ensures.items in
    let at : Contains (ip_networks list) e = value_at (λ r. ip_network r.0) list i d (omega arith) in
    let count : length old ≡ i = c.loop-index.invariant.size in
    let more : length new ≡ length old + 1 = ap length pushed ∙ length_push old link in
    record {
      size = omega (arith, more, count);
      links = links_more (ip_networks list) old new link (omega (arith, count)) more
          (λ k z l. ap (λ y. get_or y k z) pushed ∙ get_or_append_left old (link ∷ []) z k l)
          (λ z. ap (λ y. get_or y (length old) z) pushed ∙ get_or_push old link z (length old) refl)
          (λ n b same. subst₂ (λ m k. IsNearest (ip_networks list) m k link)
          (one_place (ip_networks list) e n at b (omega (arith, same, count))) (sym count) c.nearest-link.ensures)
          c.loop-index.invariant.links;
    }
